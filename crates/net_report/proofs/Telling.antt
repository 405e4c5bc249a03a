-- A journey that is told line by line: what is written, and what is left, make the whole text.
-- Assumes nothing.
use mathlib.Core.Path.{◌≡◌, refl, sym, ◌∙◌, ap, ap₂}
use mathlib.Core.Bool.{true}
use mathlib.Core.List.{List, [], ◌++◌, append-nil, append_assoc}
use Prim.Native.Nat.{ℕ, suc, ◌+◌, ◌-◌, ◌≤◌, ◌<◌}
use native.Mathlib.Nat.{add-suc, suc-add, zero-add}
use native.Mathlib.Numerals.{add-one}
use native.Mathlib.Omega.{arith}
use lib.ListN.{length, take, drop}
use Rattle.base.specs.Filling.{filled}
use Rattle.base.specs.Private.Writing.{Writing, writing}
use Rattle.base.proofs.Writing.{Splits, behind, writing_call}
use Rattle.mop_header.specs.Header.{Head, head_of, block_start, header_length, telegram_of}
use Rattle.mop_header.specs.declared.Header.{Header}
use Rattle.mop_reader.specs.declared.Reader.TheVariants.{Station}
use Rattle.mop_reader.specs.Reading.{sound, reading}
use Rattle.mop_reader.proofs.ReadBack.{is_written}
use Rattle.mop_reader.proofs.Sizes.{sized_most}
use Rattle.mop_station.specs.Station.{Handled}
use Rattle.net_journey.specs.Net.{Net}
use Rattle.net_journey.specs.Journey.{Ending, at_zero, Course, onward}
use Rattle.net_journey.specs.Bounded.{playing, most_transmissions}
use Rattle.net_hop.specs.Tables.{net_of, tables_of, set_up}
use Rattle.net_hop.specs.Private.Ways.{OnItsWay}
use Rattle.net_hop.proofs.Tables.{same_tables}
use Rattle.net_hop.proofs.Hops.{Goes, ended_by, Ends}
use Rattle.net_hop.proofs.Lent.{whole_telegram}
use Rattle.net_report.specs.Text.{head_line, line, lines, closing, course_text}
use Rattle.net_report.specs.Report.{Report, leaves, report_output, tells_course}
use Rattle.net_report.specs.Private.Legs.{most_characters, rest_text, ends_with, telling, telling_from, ToldSoFar}
use Rattle.net_report.proofs.Lines.{line_read}
use Rattle.net_report.proofs.Reporting.{tells_text}

-- a telegram on its way has at most 32 entries
pub few_entries : {addresses places tables : List ℕ} {told : ℕ} {h : Head} {body : List ℕ} → OnItsWay addresses places tables told h body →
    length h.block ≤ 32
few_entries {h = h} {body = body} w = sized_most h.form (length h.block) (is_written Station (telegram_of h body) h w.order).order.size

-- the text as the next line and what is left behind it, and as the last line of a transmission and the closing
module _ (told : ℕ) (tg : List ℕ) {h : Head} (order : reading Station tg ≡ sound h) where
  next_line : (n : ℕ) (rest : Course) → Splits (rest_text told (onward tg n rest)) (head_line (told + 1) h) (rest_text (told + 1) rest)
  unfolding lines
  next_line n rest =
      let more = lines (told + 1 + 1) rest.transmissions in
      record {
        is =
            rw (← line_read (told + 1) tg order, ← add-one (told + 1), add-suc told (length rest.transmissions), ← suc-add told (length rest.transmissions), ← add-one told)
            (append_assoc (line (told + 1) tg) more (closing (told + 1 + length rest.transmissions) rest.ending));
      }

  last_line : (given : List Handled) (net : Net) (e : Ending) → rest_text told (ended_by tg given net e) ≡ head_line (told + 1) h ++ closing (told + 1) e
  unfolding lines
  last_line given net e = rw (← line_read (told + 1) tg order, append-nil (line (told + 1) tg))

-- the line of a telegram is written
module _ {x : Report} {addresses tables : List ℕ} {told at : ℕ} {out : List ℕ} {h : Head} {body : List ℕ}
    (s : ToldSoFar x addresses tables told at out h body) {w : Writing} (wrote : w ≡ writing at (head_line (told + 1) h) out)
    (within : w.at ≤ at + most_characters) where
  abbrev tg : List ℕ
  tg = telegram_of h body

  from_here : {k : ℕ} {c : Course} → most_transmissions - told ≡ k → playing k (net_of addresses tables) tg ≡ c → telling told at out c ≡ x
  from_here e p = sym (ap (λ (k : ℕ). telling told at out (playing k (net_of addresses tables) tg)) e ∙ ap (telling told at out) p) ∙ s.whole

  -- the journey ends with it, and the last line is written
  closed : (given : List Handled) (e : Ending) (after : List ℕ) → set_up addresses after ≡ true →
      telling told at out (ended_by tg given (net_of addresses after) e) ≡ x →
      {v : Writing} → v ≡ writing w.at (closing (told + 1) e) w.output → v.at ≤ w.at + 19 → (ends_with v after ≡ x) × (v.at ≤ report_output)
  closed given e after set whole shut short = (
    ap₂ ends_with
        (behind at (head_line (told + 1) h) (closing (told + 1) e) out wrote shut
        ∙ sym (ap (λ (l : List ℕ). writing at l out) (last_line told tg s.way.order given (net_of addresses after) e)))
        (sym (same_tables addresses after set))
        ∙ whole,
    omega (arith, s.way.most, s.room, within),
  )

  -- no more is looked at
  pub told_over : most_transmissions ≤ told → {v : Writing} → v ≡ writing w.at (closing (told + 1) at_zero) w.output → v.at ≤ w.at + 19 →
      (ends_with v tables ≡ x) × (v.at ≤ report_output)
  unfolding playing
  told_over l = closed [] at_zero tables s.way.set (from_here {k = 0} (omega arith) refl)

  module _ (left : told < most_transmissions) where
    abbrev calls : ℕ
    calls = most_transmissions - (told + 1)

    one_less : most_transmissions - told ≡ suc calls
    one_less = omega arith

    pub told_end : {after : List ℕ} {e : Ending} → Ends addresses tables h body after e →
        {v : Writing} → v ≡ writing w.at (closing (told + 1) e) w.output → v.at ≤ w.at + 19 → (ends_with v after ≡ x) × (v.at ≤ report_output)
    told_end {after} {e} p = closed p.given e after p.set (from_here one_less (p.plays calls))

    pub told_on : {after : List ℕ} {g : Head} {next : List ℕ} → Goes addresses tables h body after g next →
        ToldSoFar x addresses after (told + 1) w.at w.output g next
    told_on {after} {g} {next} p =
        let rest = playing calls (net_of addresses after) (telegram_of g next) in
        let n = length (telegram_of g next) in
        record {
          way = record { set = p.set; known = refl; order = p.order; most = omega arith };
          room = omega (arith, s.room);
          whole =
              ap (λ (t : Writing). ends_with t (tables_of rest.after))
              (writing_call (next_line told tg s.way.order n rest) at out wrote refl)
              ∙ from_here one_less (p.plays calls);
        }

-- a telegram that was read, and the parts of it that are lent: its block from start on, and its body from n on
module _ (read : Header) (tg addresses tables : List ℕ) (order : reading Station tg ≡ sound (head_of read (drop (block_start read.form) tg)))
    {start n : ℕ} (begins : start ≡ block_start read.form) (long : (slice : List ℕ) → n ≡ header_length (head_of read slice)) where
  abbrev slice : List ℕ
  slice = take (length tg - start) (drop start tg)

  abbrev rest : List ℕ
  rest = take (length tg - n) (drop n tg)

  -- the whole text, since it has room
  pub journey_told : {end : ℕ} {after output : List ℕ} (out : List ℕ) → report_output ≤ length out →
      (leaves (filled end) after output ≡ telling_from 0 0 out (net_of addresses tables) (head_of read slice) rest) × (end ≤ report_output) →
      leaves (filled end) after output ≡ tells_course (playing most_transmissions (net_of addresses tables) tg) out
  unfolding course_text
  journey_told {end} out room (e, within) =
      let c = playing most_transmissions (net_of addresses tables) tg in
      let text = rest_text 0 c in
      let same = rw (whole_telegram read tg order begins long) at e in
      let given : filled end ≡ filled (0 + length text) = ap (λ (r : Report). r.given) same in
      let long : end ≡ 0 + length text = cc in
      same ∙ tells_text text (tables_of c.after) out refl (omega (arith, long)) ∙ rw (zero-add (length c.transmissions))
