use Rattle.bt_account.proofs.leaves_keep_input_order.Goals as goal

pub returns : goal.returns
returns g c = λ plan p r h tell q. h.order q tell
