-- How methods take their target and arguments.
use Rattle.std.specs.Prelude.{ℕ, List, codes}
use Rattle.bt_value.specs.declared.names.MethodId.{MethodId}
use Rattle.bt_value.specs.declared.names.MethodId.TheVariants as m
use Rattle.bt_meaning.specs.declared.forms.Each.{Each}
use Rattle.bt_meaning.specs.declared.forms.Each.TheVariants as e
use Rattle.bt_meaning.specs.declared.forms.Form.{Form}
use Rattle.bt_meaning.specs.declared.forms.Form.TheVariants as fo

-- the methods with a query on each element, as failures name them
abbrev pub each_name : Each → List ℕ
each_name e.MapEach = codes "map_each"
each_name e.MapEachKey = codes "map_each_key"
each_name e.Filter = codes "filter"
each_name e.Any = codes "any"
each_name e.All = codes "all"
each_name e.SortBy = codes "sort_by"

-- the methods that take a query, and all others, which take values alone
unfoldable pub form : MethodId → Form
form m.Catch = fo.Catch
form m.Or = fo.Or
form m.Apply = fo.Apply
form m.MapEach = fo.Each e.MapEach
form m.MapEachKey = fo.Each e.MapEachKey
form m.Filter = fo.Each e.Filter
form m.Any = fo.Each e.Any
form m.All = fo.Each e.All
form m.SortBy = fo.Each e.SortBy
form m.Fold = fo.Fold
form _ = fo.Plain
