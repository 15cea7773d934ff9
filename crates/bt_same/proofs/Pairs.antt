-- States in fractions over one denominator, and what equal fractions say of them.
use Rattle.std.proofs.Common.{◌≡◌, ℕ, ◌<◌, ℤ, pos, List, [], ◌∷◌, ◌++◌, length, get_or, ap, sym, ◌∙◌, refl, subst, arith, zero, suc}
use Rattle.std.specs.List.{All, AllByRecursion}
use Rattle.std.proofs.lemmas.List.Elements.{All-append}
use Rattle.std.proofs.lemmas.Slice.Zip.{AllZip-long}
use Rattle.std.proofs.lemmas.Option.{slice_get_within}
use Rattle.bt_frac.specs.Ratio.{Ratio, IsLowest, IsOver, AreOver}
use Rattle.bt_frac.specs.Values.{nothing}
use Rattle.bt_frac.proofs.Over.{common_denominator, are_over_split}
use Rattle.bt_frac.proofs.Euclid.{over_unique}
use Rattle.bt_net.specs.Network.{Network, IsNetwork}
use Rattle.bt_flow.specs.States.{Flows, Fractions, AreLowest, StandsFor, Fits, flow_at}
use Rattle.bt_flow.specs.EndEdges.{output_edge}
use Rattle.bt_flow_formula.proofs.Numbers.{all_to}
use Rattle.bt_flow_formula.proofs.NetEdges.{output_is, edge_of_output}
use Rattle.bt_same.specs.Sameness.{HaveEqualEnds, AreFedAlike, GiveAlike}
use Rattle.bt_same.specs.Pairs.{AreAlike, StandForBoth}
use Rattle.bt_same.specs.inner.Comparing.{OutputsAlike}
use Rattle.bt_same.proofs.Meeting.{one_over}

positive : (rs : List Ratio) → All IsLowest rs → All (λ r. 0 < r.under) rs
positive rs h = λ k d l. (h k d l).positive

-- the whole numbers of one state, of those of its flows, loads and rooms over a denominator
abbrev put : Fractions → ℕ → List ℤ → List ℤ → List ℤ → Flows
put x d flows loads rooms = record { denominator = d; flows = flows; backed = x.backed; loads = loads; rooms = rooms }

put_stands : (n : Network) (x : Fractions) (d : ℕ) (flows loads rooms : List ℤ) → Fits n x → 0 < d → AreOver x.flows flows d → AreOver x.loads loads d → AreOver x.rooms rooms d
    → StandsFor n x (put x d flows loads rooms)
put_stands n x d flows loads rooms fits some f l r =
    let long = λ (rs : List Ratio) (ws : List ℤ). AllZip-long (λ r w. IsOver r w d) rs ws in
    record {
      is_state = record {
        positive = some;
        flows = long x.flows flows f ∙ fits.flows;
        backed = fits.backed;
        loads = long x.loads loads l ∙ fits.loads;
        rooms = long x.rooms rooms r ∙ fits.rooms;
      };
      flows = f;
      backed = refl;
      loads = l;
      rooms = r;
    }

-- all fractions of a state
abbrev all_of : Fractions → List Ratio
all_of x = x.flows ++ (x.loads ++ x.rooms)

all_lowest : (x : Fractions) → AreLowest x → All IsLowest (all_of x)
all_lowest x low = All-append IsLowest x.flows (x.loads ++ x.rooms) low.flows (All-append IsLowest x.loads x.rooms low.loads low.rooms)

-- two states can be put over one denominator
pub some_both : (a b : Network) (x y : Fractions) → AreLowest x → AreLowest y → Fits a x → Fits b y → (s : Flows) × ((t : Flows) × StandForBoth a b x y s t)
some_both a b x y low_x low_y fits_x fits_y =
    let whole = all_of x ++ all_of y in
    let c = common_denominator whole (positive whole (All-append IsLowest (all_of x) (all_of y) (all_lowest x low_x) (all_lowest y low_y))) in
    let d = c.0 in
    let halves = are_over_split (all_of x) (all_of y) c.2.0 d c.2.1 in
    let front_x = are_over_split x.flows (x.loads ++ x.rooms) halves.0 d halves.1.2 in
    let back_x = are_over_split x.loads x.rooms front_x.1.0 d front_x.1.3 in
    let front_y = are_over_split y.flows (y.loads ++ y.rooms) halves.1.0 d halves.1.3 in
    let back_y = are_over_split y.loads y.rooms front_y.1.0 d front_y.1.3 in (
      put x d front_x.0 back_x.0 back_x.1.0,
      (
        put y d front_y.0 back_y.0 back_y.1.0,
        record {
          first = put_stands a x d front_x.0 back_x.0 back_x.1.0 fits_x c.1 front_x.1.2 back_x.1.2 back_x.1.3;
          second = put_stands b y d front_y.0 back_y.0 back_y.1.0 fits_y c.1 front_y.1.2 back_y.1.2 back_y.1.3;
          denominator = refl;
        },
      ),
    )

-- equal fractions stand for equal numbers, and the other way round
numbers_same : (d : ℕ) → 0 < d → (rs : List Ratio) (us ws : List ℤ) → AllByRecursion IsLowest rs → AreOver rs us d → AreOver rs ws d → us ≡ ws
numbers_same d some [] [] [] low h k = refl
numbers_same d some [] [] (w ∷ ws) low h k = absurd k
numbers_same d some [] (u ∷ us) ws low h k = absurd h
numbers_same d some (r ∷ rs) [] ws low h k = absurd h
numbers_same d some (r ∷ rs) (u ∷ us) [] low h k = absurd k
numbers_same d some (r ∷ rs) (u ∷ us) (w ∷ ws) low h k =
    ap (λ z. z ∷ us) (one_over r u w d d some low.0.positive refl h.0 k.0) ∙ ap (λ zs. w ∷ zs) (numbers_same d some rs us ws low.1 h.1 k.1)

fractions_same : (d : ℕ) → 0 < d → (rs qs : List Ratio) (ws : List ℤ) → AllByRecursion IsLowest rs → AllByRecursion IsLowest qs → AreOver rs ws d → AreOver qs ws d → rs ≡ qs
fractions_same d some [] [] ws low_r low_q h k = refl
fractions_same d some [] (q ∷ qs) [] low_r low_q h k = absurd k
fractions_same d some [] (q ∷ qs) (w ∷ ws) low_r low_q h k = absurd h
fractions_same d some (r ∷ rs) [] [] low_r low_q h k = absurd h
fractions_same d some (r ∷ rs) [] (w ∷ ws) low_r low_q h k = absurd k
fractions_same d some (r ∷ rs) (q ∷ qs) [] low_r low_q h k = absurd h
fractions_same d some (r ∷ rs) (q ∷ qs) (w ∷ ws) low_r low_q h k =
    ap (λ z. z ∷ rs) (over_unique r q w d some low_r.0 low_q.0 h.0 k.0) ∙ ap (λ zs. q ∷ zs) (fractions_same d some rs qs ws low_r.1 low_q.1 h.1 k.1)

item_over : (d : ℕ) (rs : List Ratio) (ws : List ℤ) (i : ℕ) → i < length rs → AreOver rs ws d → IsOver (get_or rs i nothing) (get_or ws i (pos 0)) d
item_over d [] ws i l h = absurd (omega arith)
item_over d (r ∷ rs) [] i l h = absurd h
item_over d (r ∷ rs) (w ∷ ws) zero l h = h.0
item_over d (r ∷ rs) (w ∷ ws) (suc i) l h = item_over d rs ws i (omega arith) h.1

item_lowest : (rs : List Ratio) (i : ℕ) → i < length rs → AllByRecursion IsLowest rs → IsLowest (get_or rs i nothing)
item_lowest [] i l h = absurd (omega arith)
item_lowest (r ∷ rs) zero l h = h.0
item_lowest (r ∷ rs) (suc i) l h = item_lowest rs i (omega arith) h.1

module _ (a b : Network) (first : IsNetwork a) (second : IsNetwork b) (ends : HaveEqualEnds a b) (x y : Fractions) (low_x : AreLowest x) (low_y : AreLowest y) (fits_x : Fits a x) (fits_y : Fits b y)
    (s t : Flows) (both : StandForBoth a b x y s t) where
  some : 0 < s.denominator
  some = both.first.is_state.positive

  over_second : (rs : List Ratio) (ws : List ℤ) → AreOver rs ws t.denominator → AreOver rs ws s.denominator
  over_second rs ws h = subst (AreOver rs ws) (sym both.denominator) h

  pub fed_alike : AreAlike x y → AreFedAlike s t
  fed_alike alike = record {
    denominator = both.denominator;
    loads = numbers_same s.denominator some x.loads s.loads t.loads (all_to IsLowest x.loads low_x.loads) both.first.loads
        (subst (λ rs. AreOver rs t.loads s.denominator) (sym alike.0) (over_second y.loads t.loads both.second.loads));
    rooms = numbers_same s.denominator some x.rooms s.rooms t.rooms (all_to IsLowest x.rooms low_x.rooms) both.first.rooms
        (subst (λ rs. AreOver rs t.rooms s.denominator) (sym alike.1) (over_second y.rooms t.rooms both.second.rooms));
  }

  pub alike_fed : AreFedAlike s t → AreAlike x y
  alike_fed fed = (
    fractions_same s.denominator some x.loads y.loads s.loads (all_to IsLowest x.loads low_x.loads) (all_to IsLowest y.loads low_y.loads) both.first.loads
        (subst (λ ws. AreOver y.loads ws s.denominator) (sym fed.loads) (over_second y.loads t.loads both.second.loads)),
    fractions_same s.denominator some x.rooms y.rooms s.rooms (all_to IsLowest x.rooms low_x.rooms) (all_to IsLowest y.rooms low_y.rooms) both.first.rooms
        (subst (λ ws. AreOver y.rooms ws s.denominator) (sym fed.rooms) (over_second y.rooms t.rooms both.second.rooms)),
  )

  first_over : (i : ℕ) → i < length a.edges → IsOver (get_or x.flows i nothing) (flow_at s i) s.denominator
  first_over i l = let long = fits_x.flows in item_over s.denominator x.flows s.flows i (omega (arith, long, l)) both.first.flows

  second_over : (i : ℕ) → i < length b.edges → IsOver (get_or y.flows i nothing) (flow_at t i) s.denominator
  second_over i l = let long = fits_y.flows in item_over s.denominator y.flows t.flows i (omega (arith, long, l)) (over_second y.flows t.flows both.second.flows)

  pub give_alike : OutputsAlike a b x y → GiveAlike a b s t
  give_alike alike = λ o i j e f h k p q.
      let here = edge_of_output a first o i e h p in
      let there = edge_of_output b second o j f k q in
      let m = slice_get_within a.edges i e h in
      let n = slice_get_within b.edges j f k in
      let low = item_lowest x.flows i (let long = fits_x.flows in omega (arith, long, m)) (all_to IsLowest x.flows low_x.flows) in
      let same : get_or y.flows j nothing ≡ get_or x.flows i nothing =
      ap (λ z. get_or y.flows z nothing) there.1 ∙ sym (alike o here.0) ∙ ap (λ z. get_or x.flows z nothing) (sym here.1) in
      one_over (get_or x.flows i nothing) (flow_at s i) (flow_at t j) s.denominator s.denominator some low.positive refl (first_over i m)
      (subst (λ r. IsOver r (flow_at t j) s.denominator) same (second_over j n))

  pub alike_give : GiveAlike a b s t → OutputsAlike a b x y
  alike_give alike o l =
      let here = output_is a first o l in
      let there = output_is b second o (let z = ends.outputs in omega (arith, l, z)) in
      let i : ℕ = output_edge a o in
      let j : ℕ = output_edge b o in
      let m = slice_get_within a.edges i here.0 here.1 in
      let n = slice_get_within b.edges j there.0 there.1 in
      over_unique (get_or x.flows i nothing) (get_or y.flows j nothing) (flow_at s i) s.denominator some
      (item_lowest x.flows i (let long = fits_x.flows in omega (arith, long, m)) (all_to IsLowest x.flows low_x.flows))
      (item_lowest y.flows j (let long = fits_y.flows in omega (arith, long, n)) (all_to IsLowest y.flows low_y.flows))
      (first_over i m)
      (subst (λ w. IsOver (get_or y.flows j nothing) w s.denominator) (sym (alike o i j here.0 there.0 here.1 there.1 here.2 there.2)) (second_over j n))
