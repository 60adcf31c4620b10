-- The numbers of `pipeline`.
use Rattle.std.specs.Prelude.{ℕ, ℤ, pos, negsuc, List, [], ◌∷◌, ◌&&◌, nat_le, Option, Some, None, codes, if◌then◌else◌}
use Rattle.bt_value.specs.Keys.{find}
use Rattle.bt_value.specs.declared.val.Val.{Val, out-Val}
use Rattle.bt_value.specs.declared.val.Val.TheOpen.{Val-F}

-- a number from 1 to a most, and else a default
abbrev pub number_within : ℕ → ℕ → ℤ → ℕ
number_within most default (pos n) = if nat_le 1 n && nat_le n most then n else default
number_within most default (negsuc n) = default

abbrev pub number_in : ℕ → ℕ → Val-F Val → ℕ
number_in most default (Val-F.Int n) = number_within most default n
number_in most default _ = default

abbrev pub number_of : ℕ → ℕ → Option Val → ℕ
number_of most default (Some v) = number_in most default (out-Val v)
number_of most default None = default

abbrev pub number_at : ℕ → ℕ → List ℕ → Val-F Val → ℕ
number_at most default key (Val-F.Obj ms) = number_of most default (find key ms)
number_at most default key _ = default

abbrev pub pipeline_number : ℕ → ℕ → List ℕ → Option Val → ℕ
pipeline_number most default key (Some v) = number_at most default key (out-Val v)
pipeline_number most default key None = default

abbrev pub config_number : ℕ → ℕ → List ℕ → Val-F Val → ℕ
config_number most default key (Val-F.Obj ms) = pipeline_number most default key (find (codes "pipeline") ms)
config_number most default key _ = default

-- `threads` of `pipeline`: 1 to 64 [1]
abbrev pub threads : Val → ℕ
threads config = config_number 64 1 (codes "threads") (out-Val config)

-- `window` of `pipeline`: 1 to 16384 [1024]
abbrev pub window : Val → ℕ
window config = config_number 16384 1024 (codes "window") (out-Val config)
