-- The lengths of headers.
-- Assumes nothing.
use mathlib.Core.Path.{◌≡◌, refl, ◌∙◌, ap}
use mathlib.Core.List.{List}
use Prim.Native.Nat.{ℕ, ◌+◌, ◌≤◌}
use native.Mathlib.Omega.{arith}
use lib.ListN.{length}
use Rattle.mop_block.specs.Block.{first, roll_left, roll_right}
use Rattle.mop_block.proofs.Rolls.{length_rolled, length_left, length_right}
use Rattle.mop_header.specs.Header.{Head, entries, head_of, block_start, address_bytes, header_bytes, header_length, mark_byte, with_mark, remarked, rolled_left, rolled_right, as_reply, sent_back}
use Rattle.mop_header.specs.declared.Header.{Header}
use Rattle.mop_header.specs.declared.Form.{Form}
use Rattle.mop_header.specs.declared.Form.TheVariants.{Standard, Extended}
use Rattle.mop_header.proofs.Turns.{length_entries}

-- at most seven bytes stand before the block
pub start_most : (form : Form) → block_start form ≤ 7
start_most Standard = omega arith
start_most (Extended m) = omega arith

-- the bytes of a header with a block of so many entries
abbrev pub header_room : Form → ℕ → ℕ
header_room form n = block_start form + n

room_by : (h : Head) (form : Form) → h.form ≡ form → header_length h ≡ header_room form (length h.block)
unfolding header_length header_bytes address_bytes
room_by h Standard e = rw e (omega arith)
room_by h (Extended m) e = rw e (omega arith)

pub length_header : (h : Head) → header_length h ≡ header_room h.form (length h.block)
length_header h = room_by h h.form refl

-- remarking and rolling keep the length
length_address : (m : Form) (b d : List ℕ) → length b ≡ length d → length (address_bytes m b) ≡ length (address_bytes m d)
unfolding address_bytes
length_address Standard b d e = e
length_address (Extended m) b d e = omega arith

length_with : (m : Form) (k : ℕ) (b : List ℕ) → length (address_bytes (with_mark m k) b) ≡ length (address_bytes m b)
unfolding address_bytes with_mark
length_with Standard k b = refl
length_with (Extended m) k b = refl

module _ (h : Head) where
  pub length_remarked : header_length (remarked h) ≡ header_length h
  unfolding header_length header_bytes remarked
  length_remarked = rw (length_with h.form (mark_byte h.function (first h.block)) h.block)

  pub length_rolled_left : header_length (rolled_left h) ≡ header_length h
  unfolding header_length header_bytes rolled_left
  length_rolled_left = rw (length_address h.form (roll_left h.block) h.block (length_left h.block))

  pub length_rolled_right : header_length (rolled_right h) ≡ header_length h
  unfolding header_length header_bytes rolled_right
  length_rolled_right = rw (length_address h.form (roll_right h.block) h.block (length_right h.block))

  pub length_as_reply : header_length (as_reply h) ≡ header_length h
  unfolding as_reply header_length header_bytes
  length_as_reply = refl

pub length_sent_back : (h : Head) → header_length (sent_back h) ≡ header_length h
unfolding sent_back
length_sent_back h = length_remarked (rolled_right h) ∙ length_rolled_right h

-- a header of the code has as many entries as it counts, whatever slice stands beside it
module _ (h : Header) (slice : List ℕ) where
  pub length_block : length (head_of h slice).block ≡ h.count
  length_block = length_rolled h.turn (entries h.count slice) ∙ length_entries h.count slice

  pub counted : header_length (head_of h slice) ≡ header_room h.form h.count
  counted = length_header (head_of h slice) ∙ rw length_block

  -- the block begins before the header ends
  pub start_within : {n : ℕ} → n ≡ block_start h.form → n ≤ header_length (head_of h slice)
  start_within s = omega (arith, s, counted)

  -- places that are enough for the header are enough for what stands before the block, and as many entries as it counts
  pub room_behind : {places : ℕ} {form : Form} → h.form ≡ form → header_length (head_of h slice) ≤ places → header_room form h.count ≤ places
  room_behind told fits = omega (arith, counted, ap block_start told)
