use Rattle.std.proofs.Common.{ℕ, arith, subst}
use Rattle.bt_duties.specs.DeskView.{DeskView}
use Rattle.bt_leaves.specs.Pursued.{Pursued}
use Rattle.bt_leaves.proofs.Pursued.{still_pursued}
use Rattle.bt_ledger.specs.Due.{AllSettled}
use Rattle.bt_ledger.specs.Ledger.{part_tree}
use Rattle.bt_ledger.specs.Open.{tree_of}
use Rattle.bt_sound.proofs.Lists.{each_map}
use Rattle.bt_sound.proofs.Settled.{pursued_at}
use Rattle.bt_duties.specs.Stands.{IsStanding}
use Rattle.bt_duties.proofs.Duties.{few_opened}
use Rattle.bt_ledger.proofs.Keeping.{held_booked}
use Rattle.bt_moves.proofs.Closing.{open_has_waiting}
use Rattle.bt_duties.proofs.desk.Desk.stands.Goals as goal

pub returns : goal.returns
returns g c =
    subst (λ (v : DeskView _ _ _ _ _). IsStanding g.I.Intake g.K.Sink g.A.Answerer g.C.Clock g.D.Derive v) c.self.view_is (
      c.sound.ensures.0,
      record {
        sound = c.sound.ensures.1;
        standing = c.self.invariant;
        booked = c.in_order.ensures.book;
        few = (let a = few_opened c.self.inside.floor.ledger in let w = c.self.invariant.window in omega arith);
        entries = (let a = held_booked c.self.inside.floor.ledger c.in_order.ensures.book in let b = c.in_order.ensures.book.bound in omega arith);
        asked = λ s p. still_pursued (part_tree c.self.inside.floor.ledger s p) (c.self.invariant.resting.quiet s p);
        past_asked = each_map (λ q. AllSettled q.state.parts) (λ q. (p : ℕ) → Pursued (tree_of q.state.parts p)) c.sound.ensures.0 (λ q h p. pursued_at q.state.parts p h) c.sound.ensures.1.past_done;
        waits = λ s e. open_has_waiting c.self.inside.floor.ledger s c.self.invariant.resting e;
      },
    )
