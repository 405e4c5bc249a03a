-- What holds of every journey: the stations stay, and a refusal is the last answer.
-- Assumes nothing.
use mathlib.Core.Path.{◌≡◌, refl, sym, ◌∙◌, ap}
use mathlib.Core.List.{List, [], ◌∷◌, ◌++◌, map, tail}
use mathlib.Core.Bool.{Bool, true, false, and-eq-true_iff}
use Prim.Native.Nat.{ℕ, zero, suc}
use native.Mathlib.Omega.{arith}
use lib.ListN.{length}
use Rattle.mop_station.specs.Station.{Handled, sent, refuses, handling}
use Rattle.base.specs.Choice.{pick}
use Rattle.mop_block.specs.Block.{first}
use Rattle.mop_reader.specs.Reading.{Reading, sound, faulty, reading}
use Rattle.mop_reader.specs.declared.Reader.TheVariants.{Station}
use Rattle.net_journey.specs.Net.{Net, addresses_of, is_there, table_at}
use Rattle.net_journey.specs.Journey.{at_nobody, refused_with, no_station, station, named, addressee, handler, Course, Journey, ends, refused, sends}
use Rattle.net_journey.specs.Terms.{sent_only, is_fine, all_fine}
use Rattle.net_journey.proofs.Net.{addresses_with}
use Rattle.net_journey.proofs.Outputs.{sent_length}

pub stations_stay : {net : Net} {tg : List ℕ} {d : Course} → Journey net tg d → addresses_of d.after ≡ addresses_of net
stations_stay (ends e) = refl
stations_stay (refused {net = net} {tg = tg} {t = t} {a = a} mine out room e) = addresses_with a (handling a t tg out).registers net
stations_stay (sends {net = net} {tg = tg} {t = t} {a = a} mine out room e j) = stations_stay j ∙ addresses_with a (handling a t tg out).registers net

-- a journey begins with its telegram, and each next one was sent
begins : {net : Net} {tg : List ℕ} {d : Course} → Journey net tg d → d.transmissions ≡ tg ∷ tail d.transmissions
begins (ends e) = refl
begins (refused mine out room e) = refl
begins (sends mine out room e j) = refl

abbrev sending : List ℕ → Handled
sending next = sent (length next)

pub sent_each : {net : Net} {tg : List ℕ} {d : Course} → Journey net tg d → sent_only d.answers ≡ map sending (tail d.transmissions)
sent_each (ends e) = refl
sent_each (refused mine out room e) = refl
sent_each (sends {tg = tg} {t = t} {a = a} {n = n} {rest = rest} mine out room e j) =
    let long = sym (sent_length a t tg out n room e) in
    (λ i. sent (long i) ∷ sent_each j i) ∙ ap (map sending) (sym (begins j))

-- a telegram without a fault that no station is called with ends the journey at 00 or at nobody
pick_nobody : (t : Bool) (a k : ℕ) (u : List ℕ) → pick t (station a u) (no_station at_nobody) ≡ no_station (refused_with k) → ⊥
pick_nobody true a k u e = let x : ◌≡◌ {A = ℕ} 0 1 = cc in omega arith
pick_nobody false a k u e = let x : ◌≡◌ {A = ℕ} 0 1 = cc in omega arith

named_unrefused : (a : ℕ) (net : Net) (k : ℕ) → named a net ≡ no_station (refused_with k) → ⊥
unfolding named
named_unrefused zero net k e = let x : ◌≡◌ {A = ℕ} 0 1 = cc in omega arith
named_unrefused (suc a) net k e = pick_nobody (is_there (suc a) net) (suc a) k (table_at (suc a) net) e

addressee_unrefused : (r : Reading) (net : Net) (k : ℕ) → is_fine r ≡ true → addressee r net ≡ no_station (refused_with k) → ⊥
unfolding addressee
addressee_unrefused (sound h) net k well e = named_unrefused (first h.block) net k e
addressee_unrefused (faulty j) net k well e = let x : ◌≡◌ {A = ℕ} 0 1 = cc in omega arith

ends_unrefused : (net : Net) (tg : List ℕ) (k : ℕ) → is_fine (reading Station tg) ≡ true → handler net tg ≡ no_station (refused_with k) → ⊥
unfolding handler
ends_unrefused net tg k well e = addressee_unrefused (reading Station tg) net k well e

same_number : {j k : ℕ} → refused_with j ≡ refused_with k → j ≡ k
same_number e = cc

-- a number that no station gave is that of a fault
pub given_by : {net : Net} {tg : List ℕ} {d : Course} → Journey net tg d → all_fine d.transmissions ≡ true → (k : ℕ) → d.ending ≡ refused_with k →
    (earlier : List Handled) × (d.answers ≡ earlier ++ (refuses k ∷ []))
given_by (ends {net = net} {tg = tg} e) well k is =
    absurd (ends_unrefused net tg k ((and-eq-true_iff (is_fine (reading Station tg)) true).0 well).0 (e ∙ ap no_station is))
given_by (refused mine out room e) well k is = ([], ap (λ (n : ℕ). refuses n ∷ []) (same_number is))
given_by (sends {tg = tg} {n = n} {rest = rest} mine out room e j) well k is =
    let x = given_by j ((and-eq-true_iff (is_fine (reading Station tg)) (all_fine rest.transmissions)).0 well).1 k is in
    (sent n ∷ x.0, ap (λ (l : List Handled). sent n ∷ l) x.1)

-- lists of answers
module _ (later : List Handled) (k : ℕ) where
  none_earlier : (earlier : List Handled) → [] ≡ earlier ++ (refuses k ∷ later) → ⊥
  none_earlier [] e = let x : ◌≡◌ {A = ℕ} 0 1 = cc in omega arith
  none_earlier (x ∷ earlier) e = let y : ◌≡◌ {A = ℕ} 0 1 = cc in omega arith

  sent_refuses : (n : ℕ) {rest : List Handled} → sent n ∷ rest ≡ refuses k ∷ later → ⊥
  sent_refuses n e = let x : ◌≡◌ {A = ℕ} 0 1 = cc in omega arith

  behind_first : {x y : Handled} {xs ys : List Handled} → x ∷ xs ≡ y ∷ ys → xs ≡ ys
  behind_first e = cc

  pub last_refused : {net : Net} {tg : List ℕ} {d : Course} → Journey net tg d → (earlier : List Handled) → d.answers ≡ earlier ++ (refuses k ∷ later) →
      length d.transmissions ≡ suc (length earlier)
  last_refused (ends e) earlier is = absurd (none_earlier earlier is)
  last_refused (refused mine out room e) [] is = refl
  last_refused (refused mine out room e) (x ∷ earlier) is = absurd (none_earlier earlier (behind_first is))
  last_refused (sends {n = n} mine out room e j) [] is = absurd (sent_refuses n is)
  last_refused (sends mine out room e j) (x ∷ earlier) is = ap suc (last_refused j earlier (behind_first is))
