-- A reply for the centre, as the centre reads it, and what it accepts.
-- Assumes nothing.
use mathlib.Core.Path.{◌≡◌, sym, ◌∙◌, ap}
use mathlib.Core.List.{List}
use Prim.Native.Nat.{ℕ, ◌+◌, ◌*◌, ◌≤◌}
use lib.ListN.{length}
use Rattle.mop_block.specs.Block.{stations, first}
use Rattle.mop_header.specs.Header.{Head, header_length, telegram_of}
use Rattle.mop_reader.specs.Reading.{max_telegram}
use Rattle.mop_reader.specs.ReadBack.{InOrder}
use Rattle.mop_reader.specs.declared.Reader.TheVariants.{Centre}
use Rattle.mop_reader.proofs.ReadBack.{reads_back, is_written}
use Rattle.mop_body.specs.Body.{read_count, reply_with}
use Rattle.mop_body.proofs.Bodies.{start_repeated, count_repeated, bytes_behind, length_reply_with}
use Rattle.mop_centre.specs.Reply.{accepted_reading, read_out, reply_reading}
use Rattle.mop_centre.proofs.Replies.{accepted_passed, reply_read, other_read, receipt_read}
use Rattle.net_exchange.specs.ReadBack.{ReplyReadsBack, AcceptedIsReply, OthersTellNothing}

-- a reply that is written with a header in order, and a 00 first
module _ (h : Head) (body : List ℕ) (o : InOrder Centre h) (home : first h.block ≡ 0) (short : length (telegram_of h body) ≤ max_telegram)
    (long : length body ≡ 3 + 2 * read_count body) where
  pub written_read : reply_reading (telegram_of h body) ≡ read_out h body
  written_read =
      let back = reads_back Centre h body o short in
      reply_read (telegram_of h body) (record { order = back.0; mine = home; long = rw back.1 long }) ∙ ap (read_out h) back.1

pub reply_reads_back : ReplyReadsBack
unfolding read_out
reply_reads_back h body values o home many short =
    written_read h (reply_with body values) o home short
    (length_reply_with body values ∙ ap (λ (n : ℕ). 3 + 2 * n) (many ∙ sym (count_repeated body values)))
    ∙ (λ i. accepted_reading (stations h.block) (start_repeated body values i) (count_repeated body values i) (bytes_behind body values i) (header_length h + 3))

-- what is accepted, and what is not
pub accepted_is_reply : AcceptedIsReply
accepted_is_reply telegram e =
    let p = accepted_passed telegram (sym (receipt_read telegram) ∙ e) in
    let q = p.1 in
    (p.0, record { well = is_written Centre telegram p.0 q.order; for_centre = q.mine; long = q.long; read = reply_read telegram q })

pub others_tell_nothing : OthersTellNothing
others_tell_nothing telegram n = other_read telegram (sym (receipt_read telegram)) n
