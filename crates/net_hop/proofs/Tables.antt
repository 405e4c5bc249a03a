-- The net of addresses and their tables end to end: its tables, and one of them changed.
-- Assumes nothing.
use mathlib.Core.Path.{◌≡◌, refl, sym, ◌∙◌, ap, ap₂}
use mathlib.Core.Bool.{Bool, true, false, ◌||◌, and-eq-true_iff}
use mathlib.Core.List.{List, [], ◌∷◌, ◌++◌, append_assoc}
use Prim.Native.Nat.{ℕ, suc, ◌+◌, ◌*◌, ◌≤◌, ◌<◌}
use native.Mathlib.Nat.{add_comm, mul-suc, mul-le-mul_left}
use native.Mathlib.Omega.{arith}
use borrow.Author.Tests.{eqb-true, eq-eqb, leb-true, ltb-true, lt-ltb}
use lib.Dec.{eqb, leb, ltb, leb-suc-suc}
use lib.ListN.{length, take, drop, length-append, length-take, length-drop, take-append-drop, drop_of_length-le}
use lib.Seq.{length-take-le, take_at, drop_at, drop-drop, take-add}
use Rattle.base.specs.Choice.{pick}
use Rattle.mop_registers.specs.Rows.{table_length}
use Rattle.mop_block.specs.Block.{has, distinct_addresses}
use Rattle.net_journey.specs.Net.{NetStation, Net, addresses_of, right_tables, good_net, is_there, table_at, with_table}
use Rattle.net_hop.specs.Tables.{net_of, tables_of, max_stations, tables_fit, set_up, SameTables}
use Rattle.net_hop.specs.Hop.{table_of, put_table}

module _ (addresses tables : List ℕ) where
  -- tables that fit have the right length
  pub fit_length : tables_fit addresses tables ≡ true → length tables ≡ table_length * length addresses
  unfolding tables_fit
  fit_length e =
      let l = length addresses in
      eqb-true (length tables) (table_length * l) ((and-eq-true_iff (leb l max_stations) (eqb (length tables) (table_length * l))).0 e).1

  -- tables of that length fit too
  fit_same : (after : List ℕ) → length after ≡ length tables → tables_fit addresses tables ≡ true → tables_fit addresses after ≡ true
  unfolding tables_fit
  fit_same after e fits = rw e fits

  pub set_up_parts : set_up addresses tables ≡ true → (tables_fit addresses tables ≡ true) × (distinct_addresses addresses ≡ true)
  unfolding set_up
  set_up_parts e = (and-eq-true_iff (tables_fit addresses tables) (distinct_addresses addresses)).0 e

  pub set_up_fit : set_up addresses tables ≡ true → tables_fit addresses tables ≡ true
  set_up_fit e = (set_up_parts e).0

  -- so other tables that fit are set up rightly too
  pub set_up_after : set_up addresses tables ≡ true → (after : List ℕ) → tables_fit addresses after ≡ true → set_up addresses after ≡ true
  unfolding set_up
  set_up_after e after fits = rw (fits, (set_up_parts e).1)

  pub few_addresses : tables_fit addresses tables ≡ true → length addresses ≤ max_stations
  unfolding tables_fit
  few_addresses e =
      let l = length addresses in
      leb-true l max_stations ((and-eq-true_iff (leb l max_stations) (eqb (length tables) (table_length * l))).0 e).0

-- the first of n + 1 tables, and the tables behind it
module _ (n : ℕ) where
  table_step : table_length * suc n ≡ table_length + table_length * n
  table_step = mul-suc table_length n ∙ add_comm (table_length * n) table_length

  module _ (tables : List ℕ) (e : length tables ≡ table_length * suc n) where
    length_first : length (take table_length tables) ≡ table_length
    length_first = length-take-le table_length tables (omega (arith, table_step))

    length_later : length (drop table_length tables) ≡ table_length * n
    length_later = omega (arith, table_step, length-drop table_length tables)

-- no tables for no addresses
none_left : (tables : List ℕ) → length tables ≡ table_length * 0 → tables ≡ []
unfolding table_length
none_left tables e = drop_of_length-le tables {i = 0} (omega arith)

pub tables_of_net : (addresses tables : List ℕ) → length tables ≡ table_length * length addresses → tables_of (net_of addresses tables) ≡ tables
unfolding net_of tables_of
tables_of_net [] tables e = sym (none_left tables e)
tables_of_net (a ∷ rest) tables e =
    ap (λ (l : List ℕ). take table_length tables ++ l) (tables_of_net rest (drop table_length tables) (length_later (length rest) tables e))
    ∙ take-append-drop table_length tables

pub same_tables : SameTables
same_tables addresses tables e = tables_of_net addresses tables (fit_length addresses tables (set_up_fit addresses tables e))

-- a net that is set up rightly is a good one
pub addresses_of_net : (addresses tables : List ℕ) → addresses_of (net_of addresses tables) ≡ addresses
unfolding net_of
addresses_of_net [] tables = refl
addresses_of_net (a ∷ rest) tables = ap (λ (l : List ℕ). a ∷ l) (addresses_of_net rest (drop table_length tables))

right_net : (addresses tables : List ℕ) → length tables ≡ table_length * length addresses → right_tables (net_of addresses tables) ≡ true
unfolding net_of right_tables
right_net [] tables e = refl
right_net (a ∷ rest) tables e =
    rw (eq-eqb (length (take table_length tables)) table_length (length_first (length rest) tables e))
    (right_net rest (drop table_length tables) (length_later (length rest) tables e))

pub good_net_lem : (addresses tables : List ℕ) → set_up addresses tables ≡ true → good_net (net_of addresses tables) ≡ true
unfolding good_net
good_net_lem addresses tables e =
    let both = set_up_parts addresses tables e in
    rw (addresses_of_net addresses tables, both.1) (right_net addresses tables (fit_length addresses tables both.0))

-- how many addresses stand before one; all of them where it is not there
abbrev pub place_in : ℕ → List ℕ → ℕ
place_in a [] = 0
place_in a (x ∷ xs) = pick (eqb a x) 0 (suc (place_in a xs))

-- an address is there if it has a place
has_first : (a : ℕ) (rest : List ℕ) → has a rest ≡ ltb (place_in a rest) (length rest) → (c : Bool) →
    (c || has a rest) ≡ ltb (pick c 0 (suc (place_in a rest))) (suc (length rest))
has_first a rest more true = sym (lt-ltb 0 (suc (length rest)) (omega arith))
has_first a rest more false = more ∙ sym (leb-suc-suc (suc (place_in a rest)) (length rest))

has_place : (a : ℕ) (addresses : List ℕ) → has a addresses ≡ ltb (place_in a addresses) (length addresses)
unfolding has
has_place a [] = refl
has_place a (x ∷ rest) = has_first a rest (has_place a rest) (eqb a x)

pub there_place : (a : ℕ) (addresses tables : List ℕ) → is_there a (net_of addresses tables) ≡ ltb (place_in a addresses) (length addresses)
unfolding is_there
there_place a addresses tables = ap (has a) (addresses_of_net addresses tables) ∙ has_place a addresses

-- where the table of a place begins
abbrev start_of : ℕ → ℕ
start_of place = table_length * place

start_zero : start_of 0 ≡ 0
unfolding table_length
start_zero = refl

drop_step : (n : ℕ) (tables : List ℕ) → drop (start_of (suc n)) tables ≡ drop (start_of n) (drop table_length tables)
drop_step n tables = ap (λ (k : ℕ). drop k tables) (table_step n) ∙ sym (drop-drop (start_of n) table_length tables)

put_zero : (t tables : List ℕ) → put_table 0 t tables ≡ t ++ drop table_length tables
unfolding put_table
put_zero t tables = ap (λ (k : ℕ). take k tables ++ (t ++ drop table_length (drop k tables))) start_zero

put_step : (n : ℕ) (t tables : List ℕ) → put_table (suc n) t tables ≡ take table_length tables ++ put_table n t (drop table_length tables)
unfolding put_table
put_step n t tables =
    ap₂ (λ (u v : List ℕ). u ++ (t ++ drop table_length v))
    (ap (λ (k : ℕ). take k tables) (table_step n) ∙ take-add table_length (start_of n) tables) (drop_step n tables)
    ∙ append_assoc (take table_length tables) (take (start_of n) (drop table_length tables))
    (t ++ drop table_length (drop (start_of n) (drop table_length tables)))

-- one of k tables
module _ (n k : ℕ) (tables : List ℕ) (h : n < k) (e : length tables ≡ table_length * k) where
  pub length_part : length (table_of n tables) ≡ table_length
  unfolding table_of
  length_part =
      let ends = mul-le-mul_left {m = suc n} {n = k} table_length h in
      length-take-le table_length (drop (start_of n) tables) (omega (arith, table_step n, ends, length-drop (start_of n) tables))

  length_put : (t : List ℕ) → length t ≡ table_length → length (put_table n t tables) ≡ length tables
  unfolding table_length put_table
  length_put t l = simp (length-append, length-take, length-drop) (omega arith)

-- the table at an address is the one at its place: the first, or one behind it
module _ (a x : ℕ) (rest tables : List ℕ) where
  abbrev later : List ℕ
  later = drop table_length tables

  abbrev station : List ℕ → NetStation
  station t = record { address = x; registers = t }

  abbrev place : Bool → ℕ
  place c = pick c 0 (suc (place_in a rest))

  table_first : (place_in a rest < length rest → table_at a (net_of rest later) ≡ table_of (place_in a rest) later) →
      (c : Bool) → place c < suc (length rest) → pick c (take table_length tables) (table_at a (net_of rest later)) ≡ table_of (place c) tables
  unfolding table_of
  table_first more true h = ap (λ (k : ℕ). take table_length (drop k tables)) (sym start_zero)
  table_first more false h = more (omega arith) ∙ ap (take table_length) (sym (drop_step (place_in a rest) tables))

  -- another table at an address is another one at its place
  with_first : (t : List ℕ) → length tables ≡ table_length * suc (length rest) → length t ≡ table_length →
      (place_in a rest < length rest → with_table a t (net_of rest later) ≡ net_of rest (put_table (place_in a rest) t later)) →
      (c : Bool) → place c < suc (length rest) →
      pick c (station t ∷ net_of rest later) (station (take table_length tables) ∷ with_table a t (net_of rest later))
      ≡ net_of (x ∷ rest) (put_table (place c) t tables)
  unfolding net_of
  with_first t e l more true h = rw (put_zero t tables, take_at t later table_length l, drop_at t later table_length l)
  with_first t e l more false h =
      let first = take table_length tables in
      let behind = put_table (place_in a rest) t later in
      let long = length_first (length rest) tables e in
      rw (put_step (place_in a rest) t tables, take_at first behind table_length long, drop_at first behind table_length long)
      (ap (λ (n : Net). station first ∷ n) (more (omega arith)))

pub table_at_place : (a : ℕ) (addresses tables : List ℕ) → place_in a addresses < length addresses →
    table_at a (net_of addresses tables) ≡ table_of (place_in a addresses) tables
unfolding net_of table_at
table_at_place a [] tables h = absurd (omega arith)
table_at_place a (x ∷ rest) tables h = table_first a x rest tables (table_at_place a rest (drop table_length tables)) (eqb a x) h

with_net : (a : ℕ) (addresses tables t : List ℕ) → place_in a addresses < length addresses →
    length tables ≡ table_length * length addresses → length t ≡ table_length →
    with_table a t (net_of addresses tables) ≡ net_of addresses (put_table (place_in a addresses) t tables)
unfolding net_of with_table
with_net a [] tables t h e l = absurd (omega arith)
with_net a (x ∷ rest) tables t h e l =
    with_first a x rest tables t e l
    (λ g. with_net a rest (drop table_length tables) t g (length_later (length rest) tables e) l) (eqb a x) h

-- an address that is there, in tables that fit
module _ (a : ℕ) (addresses tables : List ℕ) (fits : tables_fit addresses tables ≡ true) (there : is_there a (net_of addresses tables) ≡ true) where
  pub here : place_in a addresses < length addresses
  here = ltb-true (place_in a addresses) (length addresses) (sym (there_place a addresses tables) ∙ there)

  -- another table of the right length for it
  module _ (t : List ℕ) (long : length t ≡ table_length) where
    abbrev new : List ℕ
    new = put_table (place_in a addresses) t tables

    pub new_net : with_table a t (net_of addresses tables) ≡ net_of addresses new
    new_net = with_net a addresses tables t here (fit_length addresses tables fits) long

    pub new_fits : tables_fit addresses new ≡ true
    new_fits =
        fit_same addresses tables new
        (length_put (place_in a addresses) (length addresses) tables here (fit_length addresses tables fits) t long) fits
