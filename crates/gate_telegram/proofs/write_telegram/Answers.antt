-- `write_telegram`: the head, the data and the two bytes of the check make the telegram.
-- Assumes nothing.
use native.Mathlib.Omega.{arith}
use Rattle.gate_telegram.proofs.Telegrams.{telegram_written}
use Rattle.gate_telegram.proofs.write_telegram.Goals as goal

pub returns : goal.returns
returns c =
    let ending = c in
    let filling = ending in
    let copying = filling in
    let checking = copying in
    let a = checking.args in
    telegram_written a.destination a.source a.src.now a.out.now
    checking.over.ensures checking.over-check.ensures copying.put.ensures filling.put-2.ensures
    ending.put_words.ensures (omega arith)
