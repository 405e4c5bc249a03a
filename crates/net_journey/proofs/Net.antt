-- The stations of a net, their tables, and the net with another table at one of them.
-- Assumes nothing.
use mathlib.Core.Path.{◌≡◌, refl, sym, ◌∙◌, ap}
use mathlib.Core.Bool.{Bool, true, false, not, ◌&&◌, ◌||◌, false≢true, and-eq-true_iff}
use mathlib.Core.List.{List, [], ◌∷◌}
use Prim.Native.Nat.{ℕ}
use borrow.Author.Tests.{eqb-true, eq-eqb, ne_eqb}
use lib.Dec.{eqb}
use lib.ListN.{length}
use Rattle.base.specs.Choice.{pick}
use Rattle.base.proofs.Choice.{pick_either}
use Rattle.mop_registers.specs.Rows.{table_length}
use Rattle.mop_block.specs.Block.{is_address, has, distinct_addresses}
use Rattle.net_journey.specs.Net.{NetStation, Net, addresses_of, right_tables, good_net, is_there, all_there, up_to_missing, table_at, with_table}

-- the first station of a net with another table
abbrev given : NetStation → List ℕ → NetStation
given s t = record { address = s.address; registers = t }

itself_first : (s : NetStation) (net : Net) (u : List ℕ) (rest : List ℕ → Net) → rest u ≡ net → (c : Bool) →
    pick c (given s (pick c s.registers u) ∷ net) (s ∷ rest (pick c s.registers u)) ≡ s ∷ net
itself_first s net u rest e true = refl
itself_first s net u rest e false = ap (λ (n : Net). s ∷ n) e

pub with_itself : (a : ℕ) (net : Net) → with_table a (table_at a net) net ≡ net
unfolding with_table table_at
with_itself a [] = refl
with_itself a (s ∷ net) = itself_first s net (table_at a net) (λ t. with_table a t net) (with_itself a net) (eqb a s.address)

-- the tables
other_first : (a b : ℕ) (t : List ℕ) (s : NetStation) (net : Net) → (b ≡ a → ⊥) → table_at b (with_table a t net) ≡ table_at b net →
    (c : Bool) → eqb a s.address ≡ c → table_at b (pick c (given s t ∷ net) (s ∷ with_table a t net)) ≡ table_at b (s ∷ net)
unfolding table_at
other_first a b t s net n e true ec = rw (ne_eqb b s.address (λ (x : b ≡ s.address). n (x ∙ sym (eqb-true a s.address ec))))
other_first a b t s net n e false ec = rw e

pub table_other : (a b : ℕ) (t : List ℕ) (net : Net) → (b ≡ a → ⊥) → table_at b (with_table a t net) ≡ table_at b net
unfolding with_table
table_other a b t [] n = refl
table_other a b t (s ∷ net) n = other_first a b t s net n (table_other a b t net n) (eqb a s.address) refl

same_first : (a : ℕ) (t : List ℕ) (s : NetStation) (net : Net) → (has a (addresses_of net) ≡ true → table_at a (with_table a t net) ≡ t) →
    (c : Bool) → eqb a s.address ≡ c → (c || has a (addresses_of net)) ≡ true →
    table_at a (pick c (given s t ∷ net) (s ∷ with_table a t net)) ≡ t
unfolding table_at
same_first a t s net e true ec h = rw ec
same_first a t s net e false ec h = rw ec (e h)

pub table_same : (a : ℕ) (t : List ℕ) (net : Net) → is_there a net ≡ true → table_at a (with_table a t net) ≡ t
unfolding with_table is_there has
table_same a t [] h = absurd (false≢true h)
table_same a t (s ∷ net) h = same_first a t s net (table_same a t net) (eqb a s.address) refl h

-- the stations stay
pub addresses_with : (a : ℕ) (t : List ℕ) (net : Net) → addresses_of (with_table a t net) ≡ addresses_of net
unfolding with_table
addresses_with a t [] = refl
addresses_with a t (s ∷ net) =
    pick_either (λ (n : Net). addresses_of n ≡ addresses_of (s ∷ net)) (eqb a s.address) refl
    (ap (λ (l : List ℕ). s.address ∷ l) (addresses_with a t net))

pub there_with : (b a : ℕ) (t : List ℕ) (net : Net) → is_there b (with_table a t net) ≡ is_there b net
unfolding is_there
there_with b a t net = ap (has b) (addresses_with a t net)

pub all_there_with : (l : List ℕ) (a : ℕ) (t : List ℕ) (net : Net) → all_there l (with_table a t net) ≡ all_there l net
unfolding all_there
all_there_with [] a t net = refl
all_there_with (b ∷ l) a t net = rw (there_with b a t net, all_there_with l a t net)

-- good nets
right_with : (a : ℕ) (t : List ℕ) (net : Net) → right_tables net ≡ true → length t ≡ table_length → right_tables (with_table a t net) ≡ true
unfolding with_table right_tables
right_with a t [] r e = refl
right_with a t (s ∷ net) r e =
    let both = (and-eq-true_iff (eqb (length s.registers) table_length) (right_tables net)).0 r in
    pick_either (λ (n : Net). right_tables n ≡ true) (eqb a s.address) (rw (eq-eqb (length t) table_length e, both.1))
    (rw (both.0, right_with a t net both.1 e))

good_parts : (net : Net) → good_net net ≡ true → (distinct_addresses (addresses_of net) ≡ true) × (right_tables net ≡ true)
unfolding good_net
good_parts net g = (and-eq-true_iff (distinct_addresses (addresses_of net)) (right_tables net)).0 g

pub good_with : (a : ℕ) (t : List ℕ) (net : Net) → good_net net ≡ true → length t ≡ table_length → good_net (with_table a t net) ≡ true
unfolding good_net
good_with a t net g e =
    let both = good_parts net g in
    rw (addresses_with a t net, both.0, right_with a t net both.1 e)

right_first : (a : ℕ) (s : NetStation) (net : Net) → eqb (length s.registers) table_length ≡ true →
    (has a (addresses_of net) ≡ true → length (table_at a net) ≡ table_length) →
    (c : Bool) → (c || has a (addresses_of net)) ≡ true → length (pick c s.registers (table_at a net)) ≡ table_length
right_first a s net r e true h = eqb-true (length s.registers) table_length r
right_first a s net r e false h = e h

right_table : (a : ℕ) (net : Net) → right_tables net ≡ true → is_there a net ≡ true → length (table_at a net) ≡ table_length
unfolding right_tables is_there has table_at
right_table a [] r h = absurd (false≢true h)
right_table a (s ∷ net) r h =
    let both = (and-eq-true_iff (eqb (length s.registers) table_length) (right_tables net)).0 r in
    right_first a s net both.0 (right_table a net both.1) (eqb a s.address) h

pub good_table : (a : ℕ) (net : Net) → good_net net ≡ true → is_there a net ≡ true → length (table_at a net) ≡ table_length
good_table a net g h = right_table a net (good_parts net g).1 h

address_first : (a x : ℕ) (xs : List ℕ) → is_address x ≡ true → (has a xs ≡ true → is_address a ≡ true) →
    (c : Bool) → eqb a x ≡ c → (c || has a xs) ≡ true → is_address a ≡ true
address_first a x xs r e true ec h = rw (eqb-true a x ec) r
address_first a x xs r e false ec h = e h

distinct_address : (a : ℕ) (xs : List ℕ) → distinct_addresses xs ≡ true → has a xs ≡ true → is_address a ≡ true
unfolding distinct_addresses has
distinct_address a [] r h = absurd (false≢true h)
distinct_address a (x ∷ xs) r h =
    let both = (and-eq-true_iff (is_address x && not (has x xs)) (distinct_addresses xs)).0 r in
    address_first a x xs ((and-eq-true_iff (is_address x) (not (has x xs))).0 both.0).0 (distinct_address a xs both.1) (eqb a x) refl h

pub good_address : (a : ℕ) (net : Net) → good_net net ≡ true → is_there a net ≡ true → is_address a ≡ true
unfolding is_there
good_address a net g h = distinct_address a (addresses_of net) (good_parts net g).0 h

-- stations that are all there: none, and the first one and the others
pub all_none : (net : Net) → all_there [] net ≡ true
unfolding all_there
all_none net = refl

module _ (a : ℕ) (rest : List ℕ) (net : Net) where
  pub there_parts : all_there (a ∷ rest) net ≡ true → (is_there a net ≡ true) × (all_there rest net ≡ true)
  unfolding all_there
  there_parts h = (and-eq-true_iff (is_there a net) (all_there rest net)).0 h

  pub there_both : is_there a net ≡ true → all_there rest net ≡ true → all_there (a ∷ rest) net ≡ true
  unfolding all_there
  there_both h k = rw (h, k)

  pub not_there : is_there a net ≡ false → all_there (a ∷ rest) net ≡ true → ⊥
  not_there e h = false≢true (sym e ∙ (there_parts h).0)

  -- the first that is not: this one, or one behind it
  pub missing_first : is_there a net ≡ false → up_to_missing (a ∷ rest) net ≡ a ∷ []
  unfolding up_to_missing
  missing_first e = rw e

  module _ (e : is_there a net ≡ true) where
    pub missing_behind : up_to_missing (a ∷ rest) net ≡ a ∷ up_to_missing rest net
    unfolding up_to_missing
    missing_behind = rw e

    pub not_all_behind : all_there (a ∷ rest) net ≡ false → all_there rest net ≡ false
    unfolding all_there
    not_all_behind h = rw e at h
