-- The worked cases of isolation: each by its law, and computed.
-- Assumes nothing.
use mathlib.Core.Path.{◌≡◌, sym, ◌∙◌, ap, subst}
use mathlib.Core.Bool.{false}
use mathlib.Core.List.{List}
use Prim.Native.Nat.{ℕ}
use borrow.Author.Tests.{eqb-false}
use lib.Dec.{eqb}
use lib.ListN.{length, get_or, take, replicate, length-replicate}
use Rattle.mop_block.specs.Block.{has}
use Rattle.mop_header.specs.Header.{Head}
use Rattle.mop_reader.specs.Reading.{sound, reading}
use Rattle.mop_header.specs.declared.Function.TheVariants.{Reply}
use Rattle.mop_reader.specs.declared.Reader.TheVariants.{Station}
use Rattle.net_journey.specs.Net.{table_at}
use Rattle.net_journey.specs.Journey.{Ending}
use Rattle.net_journey.specs.Terms.{m, before_zeros}
use Rattle.net_hop.specs.Tables.{net_of}
use Rattle.net_dry_run.specs.DryRun.{played, outright, DryRun, run_output, padded}
use Rattle.net_isolation.specs.Isolated.{IsPlayed, SameRun, SameLengths}
use Rattle.net_isolation.proofs.Journeys.{of_header}
use Rattle.net_isolation.proofs.Isolated.{isolated, refused_isolated, nobody_isolated, missing_isolated, replies_isolated}
use Rattle.worked_cases.specs.IsolationCases.{in_one, in_other, Shows, Alike, BothRefused, Unlike}

pub shows : {r : DryRun} {count : ℕ} {e : Ending} {last : List ℕ} → r.outcome ≡ played count e (length last) → take run_output r.output ≡ padded last →
    Shows r count e last
shows o f = record { outcome = o; filled = f }

played_so : {r : DryRun} {count : ℕ} {e : Ending} {last : List ℕ} → Shows r count e last → IsPlayed r.outcome
played_so s = subst IsPlayed (sym s.outcome) tt

-- why two runs are the same: by the table of the destination, or since nobody is named, the destination is missing, or it is a reply
pub data Why (tg addresses tables other : List ℕ) (h : Head) : Type 0 where
  at_destination : (let a = before_zeros h.block in table_at a (net_of addresses tables) ≡ table_at a (net_of addresses other)) → Why tg addresses tables other h
  nobody_named : m h ≡ 0 → Why tg addresses tables other h
  not_there : has (before_zeros h.block) addresses ≡ false → Why tg addresses tables other h
  is_reply : h.function ≡ Reply → Why tg addresses tables other h

module _ (tg addresses tables other : List ℕ) where
  -- two outputs of 1,024 places
  lengths : length tables ≡ length other → SameLengths tables other (replicate 1024 0) (replicate 1024 1)
  lengths e = record { of_tables = e; of_outputs = length-replicate {A = ℕ} 1024 0 ∙ sym (length-replicate {A = ℕ} 1024 1) }

  module _ (e : length tables ≡ length other) (h : Head) (order : reading Station tg ≡ sound h) where
    same_by : Why tg addresses tables other h → SameRun (in_one tg addresses tables) (in_other tg addresses other)
    same_by (at_destination table) =
        isolated tg addresses tables other _ _ (record {
          lengths = lengths e;
          destination = λ p.
              of_header (λ (g : Head). (let a = before_zeros g.block in table_at a (net_of addresses tables) ≡ table_at a (net_of addresses other))) order table;
        })
    same_by (nobody_named none) = nobody_isolated tg addresses h order none tables other _ _ (lengths e)
    same_by (not_there none) = missing_isolated tg addresses h order none tables other _ _ (lengths e)
    same_by (is_reply reply) = replies_isolated tg addresses h order reply tables other _ _ (lengths e)

    -- what the one run shows, computed, the other shows by the law
    pub alike_by : {count : ℕ} {ending : Ending} {last : List ℕ} → Why tg addresses tables other h → Shows (in_one tg addresses tables) count ending last →
        Alike tg addresses tables other count ending last
    alike_by why one =
        let same = same_by why in
        record {
          same = same;
          one = one;
          two = shows (sym same.outcome ∙ one.outcome) (sym (same.filled (played_so one)).same ∙ one.filled);
        }

  pub both_refused : (k : ℕ) → length tables ≡ length other → (in_one tg addresses tables).outcome ≡ outright k → (in_other tg addresses other).outcome ≡ outright k →
      BothRefused tg addresses tables other k
  both_refused k e one two = record { same = refused_isolated tg addresses tables other _ _ (lengths e) k one; one = one; two = two }

  module _ (count : ℕ) (e : Ending) (last otherLast : List ℕ) where
    -- the last telegrams differ at a place
    pub unlike_at : (i : ℕ) → length tables ≡ length other → Shows (in_one tg addresses tables) count e last → Shows (in_other tg addresses other) count e otherLast →
        eqb (get_or (padded last) i 0) (get_or (padded otherLast) i 0) ≡ false → Unlike tg addresses tables other count e last otherLast
    unlike_at i long one two apart =
        let differ : SameRun (in_one tg addresses tables) (in_other tg addresses other) → ⊥ = λ same.
        eqb-false (get_or (padded last) i 0) (get_or (padded otherLast) i 0) apart
        (ap (λ (l : List ℕ). get_or l i 0) (sym one.filled ∙ (same.filled (played_so one)).same ∙ two.filled)) in
        record { one = one; two = two; differ = differ; needed = λ all. differ (all tables other _ _ (lengths long)) }
