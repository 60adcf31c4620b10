use Rattle.bt_units.proofs.Listing.{next_piece, all_pieces}
use Rattle.bt_units.specs.Input.{pieces_from}
use Rattle.bt_units.proofs.input.pieces.Goals as goal

pub loop-i-preserved : goal.loop-i-preserved
loop-i-preserved c =
    next_piece c.args.messages.now c.loop-i.i c.index-messages-i.result c.loop-i.batch.items c.push.new.batch.items (pieces_from 0 c.args.messages.now)
    c.loop-i-test.true c.index-messages-i.is c.in_ok-push.ensures c.loop-i.invariant

pub returns : goal.returns
returns c = all_pieces c.args.messages.now c.loop-i.i c.loop-i.batch.items (pieces_from 0 c.args.messages.now) c.loop-i-test.false c.loop-i.invariant
