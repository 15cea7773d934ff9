-- Where what comes to a cell goes, and marking it.
use Rattle.std.proofs.Common.{◌≡◌, ◌⊎◌, ◌≢◌, ℕ, ◌+◌, ◌<◌, ◌≤◌, Bool, true, false, List, length, set, replicate, Option, Some, None, refl, sym, ◌∙◌, ap, subst, inl, inr, ⊎_elim, arith}
use Rattle.std.proofs.lemmas.Bool.{cases_eq, cases_lt, false≢true}
use Rattle.std.proofs.lemmas.List.{get_or-set_same, get_or-set_other, length-set, get_or_past, get_or-replicate, length-replicate}
use Rattle.bt_parts.specs.declared.part.Cell.{Cell}
use Rattle.bt_parts.specs.declared.part.Dir.{Dir}
use Rattle.bt_parts.specs.Cells.{step, steps, IsInside}
use Rattle.bt_model.specs.Requests.{IsGrid}
use Rattle.bt_facts.specs.declared.fact.Content.TheVariants.{Empty}
use Rattle.bt_facts.specs.declared.fact.Fact.TheVariants.{Kind, Goes, Pair}
use Rattle.bt_facts.specs.declared.fact.Shape.{Shape}
use Rattle.bt_facts.specs.declared.fact.Shape.TheVariants as shape
use Rattle.bt_facts.specs.Facts.{holds}
use Rattle.bt_rules.specs.Kept.{kind_of, begun, half, handed, under}
use Rattle.bt_rules.specs.Underground.{most_distance}
use Rattle.bt_rules.proofs.kept.CellFacts.{one_shape, one_dir, not_empty}
use Rattle.bt_rules.proofs.kept.GoingFacts.{giver_there, going_inside}
use Rattle.bt_rules.proofs.kept.TunnelFacts.{one_pair, entrance_there}
use Rattle.bt_rules.proofs.kept.Arrivals.{reached_inside}
use Rattle.bt_rules.proofs.kept.HandFacts.{giver_no_entrance}
use Rattle.bt_place.specs.inner.Grid.{IsNumberOf, spots_in, spot_in, TellsAhead}
use Rattle.bt_place.specs.inner.Told.{Told, IsSolved}
use Rattle.bt_place.specs.inner.Reaching.{Says, Reached, IsNext, by_hand, by_pair, IsStart, cell_in, TellsHanded, PairsAt, TellsPaired, TellsExit, TellsNext, IsMarked, AreMarks, Keeps, HasStarts}
use Rattle.bt_place.proofs.Cells.{spot_within, spot_numbered, numbered_inside, one_number}
use Rattle.bt_place.proofs.Solving.{solved_of}

-- on the way from a start, what follows the last cell that was marked isn't marked yet
pub record IsMarking (t : Told) (before marks : List Bool) (start i : ℕ) : Type 0 where
  pub within : i < spots_in t.request.rect
  pub reached : Reached t (cell_in t i)
  pub count : length marks ≡ spots_in t.request.rect
  pub sound : (k : ℕ) → k < spots_in t.request.rect → IsMarked marks k → Reached t (cell_in t k)
  pub closed : (k j : ℕ) → k < spots_in t.request.rect → j < spots_in t.request.rect → IsMarked marks k
      → IsNext t (cell_in t k) (cell_in t j) → IsMarked marks j ⊎ (j ≡ i)
  pub keeps : Keeps before marks
  pub started : IsMarked marks start ⊎ (i ≡ start)

-- a pair whose exit has this number
pub paired_by : (t : Told) (i : ℕ) (dir : Dir) (k j : ℕ) → IsGrid t.request.rect → Says t (Pair (cell_in t i) dir k)
    → IsNumberOf t.request.rect (steps k dir (cell_in t i)) j → TellsPaired t i dir k (Some j)
paired_by t i dir k j grid pair at =
    ((subst (IsInside t.request.rect) at.1 (numbered_inside t.request.rect j grid at.0), pair), at)

module _ (t : Told) (solved : IsSolved t) where
  rect_inside : (i : ℕ) → i < spots_in t.request.rect → IsInside t.request.rect (cell_in t i)
  rect_inside i lt = numbered_inside t.request.rect i solved.is_request.grid lt

  -- ---- where what comes to a cell goes

  next_inside : (c n : Cell) → IsInside t.request.rect c → IsNext t c n → IsInside t.request.rect n
  next_inside c n h (by_hand dir goes at) = subst (IsInside t.request.rect) (sym at) (going_inside (solved_of t solved) c h dir goes)
  next_inside c n h (by_pair dir k some few there pair at) = subst (IsInside t.request.rect) (sym at) there

  next_reached : (c n : Cell) → Reached t c → IsNext t c n → Reached t n
  next_reached c n on (by_hand dir goes at) =
      subst (Reached t) (sym at)
      (handed c dir on (going_inside (solved_of t solved) c (reached_inside (solved_of t solved) c on) dir goes) goes)
  next_reached c n on (by_pair dir k some few there pair at) = subst (Reached t) (sym at) (under c dir k on there some few pair)

  -- the way is that of what stands there, which is no entrance
  hand_way : (c : Cell) → IsInside t.request.rect c → (of : Shape) (dir way : Dir) → Says t (holds c of dir) → Says t (Goes c way)
      → (way ≡ dir) × (of ≢ shape.Entrance)
  hand_way c h of dir way says goes =
      let w = solved_of t solved in
      let giver = giver_there w c h way goes in (
        one_dir w c h giver.0 of way dir giver.2 says,
        (λ same. giver_no_entrance giver.0 giver.1 (ap kind_of (one_shape w c h giver.0 of way dir giver.2 says ∙ same))),
      )

  -- and that of a pair the way of its entrance
  pair_way : (c : Cell) → IsInside t.request.rect c → (of : Shape) (dir way : Dir) (k : ℕ) → Says t (holds c of dir) → 1 ≤ k → k ≤ most_distance t.request
      → IsInside t.request.rect (steps k way c) → Says t (Pair c way k) → (way ≡ dir) × (of ≡ shape.Entrance)
  pair_way c h of dir way k says some few there pair =
      let w = solved_of t solved in
      let entrance = entrance_there w c h way k some few there pair in (
        one_dir w c h shape.Entrance of way dir entrance says,
        one_shape w c h of shape.Entrance dir way says entrance,
      )

  -- to one cell alone
  next_once : (c n m : Cell) → IsInside t.request.rect c → IsNext t c n → IsNext t c m → n ≡ m
  next_once c n m h (by_hand x x_goes x_at) (by_hand y y_goes y_at) =
      let there = giver_there (solved_of t solved) c h y y_goes in
      let way = (hand_way c h there.0 y x there.2 x_goes).0 in
      x_at ∙ ap (λ z. step z c) way ∙ sym y_at
  next_once c n m h (by_hand x goes x_at) (by_pair y k some few there pair y_at) =
      absurd ((hand_way c h shape.Entrance y x (entrance_there (solved_of t solved) c h y k some few there pair) goes).1 refl)
  next_once c n m h (by_pair y k some few there pair y_at) (by_hand x goes x_at) =
      absurd ((hand_way c h shape.Entrance y x (entrance_there (solved_of t solved) c h y k some few there pair) goes).1 refl)
  next_once c n m h (by_pair x k x_some x_few x_in x_pair x_at) (by_pair y j y_some y_few y_in y_pair y_at) =
      let w = solved_of t solved in
      let dirs = (pair_way c h shape.Entrance y x k (entrance_there w c h y j y_some y_few y_in y_pair) x_some x_few x_in x_pair).0 in
      let far : k ≡ j = one_pair w c h y k j x_some x_few (subst (λ z. IsInside t.request.rect (steps k z c)) dirs x_in)
      (subst (λ z. Says t (Pair c z k)) dirs x_pair) y_some y_few y_in y_pair in
      x_at ∙ ap (λ z. steps k z c) dirs ∙ ap (λ z. steps z y c) far ∙ sym y_at

  -- ---- what the next cell is told to be

  pub handed_by : (i : ℕ) (dir : Dir) (found : Option ℕ) → i < spots_in t.request.rect → Says t (Goes (cell_in t i) dir)
      → TellsAhead t.request.rect (cell_in t i) dir 1 found → TellsHanded t i dir found
  handed_by i dir None lt goes out = absurd (out (going_inside (solved_of t solved) (cell_in t i) (rect_inside i lt) dir goes))
  handed_by i dir (Some j) lt goes at = (goes, at)

  pub no_next_empty : (i : ℕ) → i < spots_in t.request.rect → Says t (Kind (cell_in t i) Empty) → TellsNext t i None
  no_next_empty i lt empty n (by_hand dir goes at) =
      let giver = giver_there (solved_of t solved) (cell_in t i) (rect_inside i lt) dir goes in
      not_empty (solved_of t solved) (cell_in t i) (rect_inside i lt) giver.0 dir giver.2 empty
  no_next_empty i lt empty n (by_pair dir k some few there pair at) =
      not_empty (solved_of t solved) (cell_in t i) (rect_inside i lt) shape.Entrance dir
      (entrance_there (solved_of t solved) (cell_in t i) (rect_inside i lt) dir k some few there pair) empty

  none_handed : (i : ℕ) (of : Shape) (dir : Dir) → i < spots_in t.request.rect → Says t (holds (cell_in t i) of dir)
      → of ≢ shape.Entrance → (Says t (Goes (cell_in t i) dir) → ⊥) → (n : Cell) → IsNext t (cell_in t i) n → ⊥
  none_handed i of dir lt says above none n (by_hand way goes at) =
      none (subst (λ d. Says t (Goes (cell_in t i) d)) (hand_way (cell_in t i) (rect_inside i lt) of dir way says goes).0 goes)
  none_handed i of dir lt says above none n (by_pair way k some few there pair at) =
      above (pair_way (cell_in t i) (rect_inside i lt) of dir way k says some few there pair).1

  pub next_handed : (i : ℕ) (of : Shape) (dir : Dir) (found : Option ℕ) → i < spots_in t.request.rect → Says t (holds (cell_in t i) of dir)
      → of ≢ shape.Entrance → TellsHanded t i dir found → TellsNext t i found
  next_handed i of dir None lt says above none = none_handed i of dir lt says above none
  next_handed i of dir (Some j) lt says above found = (found.1.0, by_hand dir found.0 found.1.1)

  none_under : (i : ℕ) (dir : Dir) → i < spots_in t.request.rect → Says t (holds (cell_in t i) shape.Entrance dir)
      → TellsExit t i dir None → (n : Cell) → IsNext t (cell_in t i) n → ⊥
  none_under i dir lt says none n (by_hand way goes at) = (hand_way (cell_in t i) (rect_inside i lt) shape.Entrance dir way says goes).1 refl
  none_under i dir lt says none n (by_pair way k some few there pair at) =
      let same = (pair_way (cell_in t i) (rect_inside i lt) shape.Entrance dir way k says some few there pair).0 in
      none k some few (subst (λ d. PairsAt t i d k) same (there, pair))

  pub next_under : (i : ℕ) (dir : Dir) (found : Option ℕ) → i < spots_in t.request.rect → Says t (holds (cell_in t i) shape.Entrance dir)
      → TellsExit t i dir found → TellsNext t i found
  next_under i dir None lt says none = none_under i dir lt says none
  next_under i dir (Some j) lt says found =
      (found.4.0, by_pair dir found.0 found.1 found.2 found.3.0 found.3.1 found.4.1)

  -- ---- marks

  marked_here : (marks : List Bool) (i : ℕ) → i < length marks → IsMarked (set marks i true) i
  marked_here marks i lt = get_or-set_same marks i true false lt

  marked_still : (marks : List Bool) (i : ℕ) → i < length marks → Keeps marks (set marks i true)
  marked_still marks i lt k marked =
      ⊎_elim (λ e. subst (λ x. IsMarked (set marks i true) x) (sym e) (marked_here marks i lt))
      (λ apart. get_or-set_other marks i k true false apart ∙ marked) (cases_eq k i)

  marked_cases : (marks : List Bool) (i k : ℕ) → IsMarked (set marks i true) k → (k ≡ i) ⊎ IsMarked marks k
  marked_cases marks i k marked =
      ⊎_elim (λ e. inl e) (λ apart. inr (sym (get_or-set_other marks i k true false apart) ∙ marked)) (cases_eq k i)

  pub marking_first : (marks : List Bool) (start : ℕ) → AreMarks t marks → start < spots_in t.request.rect
      → Reached t (cell_in t start) → IsMarking t marks marks start start
  marking_first marks start are within reached = record {
    within = within;
    reached = reached;
    count = are.count;
    sound = are.sound;
    closed = λ k j k_lt j_lt marked next. inl (are.closed k j k_lt j_lt marked next);
    keeps = λ k marked. marked;
    started = inr refl;
  }

  pub marking_more : (before marks : List Bool) (start i j : ℕ) → IsMarking t before marks start i → TellsNext t i (Some j)
      → IsMarking t before (set marks i true) start j
  marking_more before marks start i j on next =
      let lt : i < length marks = let h = on.within in let n = on.count in omega arith in
      record {
        within = next.0;
        reached = next_reached (cell_in t i) (cell_in t j) on.reached next.1;
        count = length-set marks i true ∙ on.count;
        sound = λ k k_lt marked. ⊎_elim (λ e. subst (λ x. Reached t (cell_in t x)) (sym e) on.reached)
            (λ had. on.sound k k_lt had) (marked_cases marks i k marked);
        closed = λ k l k_lt l_lt marked way. ⊎_elim
            (λ e. inr (one_number t.request.rect l j (next_once (cell_in t i) (cell_in t l) (cell_in t j)
            (rect_inside i on.within) (subst (λ x. IsNext t (cell_in t x) (cell_in t l)) e way) next.1)))
            (λ had. inl (⊎_elim (λ done. marked_still marks i lt l done) (λ e. subst (λ x. IsMarked (set marks i true) x) (sym e) (marked_here marks i lt))
            (on.closed k l k_lt l_lt had way)))
            (marked_cases marks i k marked);
        keeps = λ k marked. marked_still marks i lt k (on.keeps k marked);
        started = inl (⊎_elim (λ done. marked_still marks i lt start done) (λ e. subst (λ x. IsMarked (set marks i true) x) e (marked_here marks i lt)) on.started);
      }

  pub marking_stops : (before marks : List Bool) (start i : ℕ) → IsMarking t before marks start i → TellsNext t i None
      → AreMarks t (set marks i true)
  marking_stops before marks start i on none =
      let lt : i < length marks = let h = on.within in let n = on.count in omega arith in
      record {
        count = length-set marks i true ∙ on.count;
        sound = λ k k_lt marked. ⊎_elim (λ e. subst (λ x. Reached t (cell_in t x)) (sym e) on.reached)
            (λ had. on.sound k k_lt had) (marked_cases marks i k marked);
        closed = λ k l k_lt l_lt marked way. ⊎_elim
            (λ e. absurd (none (cell_in t l) (subst (λ x. IsNext t (cell_in t x) (cell_in t l)) e way)))
            (λ had. ⊎_elim (λ done. marked_still marks i lt l done) (λ e. subst (λ x. IsMarked (set marks i true) x) (sym e) (marked_here marks i lt))
            (on.closed k l k_lt l_lt had way))
            (marked_cases marks i k marked);
      }

  pub marking_stopped_keeps : (before marks : List Bool) (start i : ℕ) → IsMarking t before marks start i → Keeps before (set marks i true)
  marking_stopped_keeps before marks start i on k marked =
      marked_still marks i (let h = on.within in let n = on.count in omega arith) k (on.keeps k marked)

  pub marking_stopped_start : (before marks : List Bool) (start i : ℕ) → IsMarking t before marks start i → IsMarked (set marks i true) start
  marking_stopped_start before marks start i on =
      let lt : i < length marks = let h = on.within in let n = on.count in omega arith in
      ⊎_elim (λ done. marked_still marks i lt start done) (λ e. subst (λ x. IsMarked (set marks i true) x) e (marked_here marks i lt)) on.started

  pub marking_joins : (before marks : List Bool) (start i : ℕ) → IsMarking t before marks start i → IsMarked marks i → AreMarks t marks
  marking_joins before marks start i on marked = record {
    count = on.count;
    sound = on.sound;
    closed = λ k l k_lt l_lt had way. ⊎_elim (λ done. done) (λ e. subst (IsMarked marks) (sym e) marked) (on.closed k l k_lt l_lt had way);
  }

  pub marking_joined_start : (before marks : List Bool) (start i : ℕ) → IsMarking t before marks start i → IsMarked marks i → IsMarked marks start
  marking_joined_start before marks start i on marked = ⊎_elim (λ done. done) (λ e. subst (IsMarked marks) e marked) on.started

  -- a start is reached
  pub start_reached : (i : ℕ) → i < spots_in t.request.rect → IsStart t (cell_in t i) → Reached t (cell_in t i)
  start_reached i lt (inl begins) = begun (cell_in t i) (rect_inside i lt) begins
  start_reached i lt (inr on) = half (cell_in t i) (rect_inside i lt) on

  -- from a marked cell on cells are marked
  marked_on : (marks : List Bool) → AreMarks t marks → (c n : Cell) → IsInside t.request.rect c → IsInside t.request.rect n
      → IsMarked marks (spot_in t.request.rect c) → IsNext t c n → IsMarked marks (spot_in t.request.rect n)
  marked_on marks are c n h k marked next =
      are.closed (spot_in t.request.rect c) (spot_in t.request.rect n) (spot_within t.request.rect c h) (spot_within t.request.rect n k) marked
      (subst (λ z. IsNext t z (cell_in t (spot_in t.request.rect n))) (sym (spot_numbered t.request.rect c h))
      (subst (IsNext t c) (sym (spot_numbered t.request.rect n k)) next))

  -- where all starts are marked, all cells that are reached are
  pub all_marked : (marks : List Bool) → AreMarks t marks → HasStarts t marks (spots_in t.request.rect)
      → (c : Cell) → Reached t c → IsMarked marks (spot_in t.request.rect c)
  all_marked marks are starts x (begun c i s) =
      let lt = spot_within t.request.rect c i in
      starts (spot_in t.request.rect c) lt lt (subst (IsStart t) (sym (spot_numbered t.request.rect c i)) (inl s))
  all_marked marks are starts x (half c i s) =
      let lt = spot_within t.request.rect c i in
      starts (spot_in t.request.rect c) lt lt (subst (IsStart t) (sym (spot_numbered t.request.rect c i)) (inr s))
  all_marked marks are starts x (handed c dir on i goes) =
      let here = reached_inside (solved_of t solved) c on in
      marked_on marks are c (step dir c) here i (all_marked marks are starts c on) (by_hand dir goes refl)
  all_marked marks are starts x (under c dir k on i some few pair) =
      let here = reached_inside (solved_of t solved) c on in
      marked_on marks are c (steps k dir c) here i (all_marked marks are starts c on) (by_pair dir k some few i pair refl)

-- nothing is marked
pub none_marked : (t : Told) (n : ℕ) → n ≡ spots_in t.request.rect → (marks : List Bool) → marks ≡ replicate n false → AreMarks t marks
none_marked t n e marks is = record {
  count = ap length is ∙ length-replicate n false ∙ e;
  sound = λ k lt marked. absurd (unmarked k marked);
  closed = λ k j k_lt j_lt marked next. absurd (unmarked k marked);
} where
  unmarked : (k : ℕ) → IsMarked marks k → ⊥
  unmarked k marked = ⊎_elim
      (λ lt. false≢true (sym (get_or-replicate n k false false lt) ∙ subst (λ ms. IsMarked ms k) is marked))
      (λ ge. false≢true (sym (get_or_past (replicate n false) k false (let l = length-replicate n false in omega arith)) ∙ subst (λ ms. IsMarked ms k) is marked))
      (cases_lt k n)

-- one more start
pub starts_more : (t : Told) (before marks : List Bool) (n : ℕ) → Keeps before marks → HasStarts t before n
    → (IsStart t (cell_in t n) → IsMarked marks n) → HasStarts t marks (n + 1)
starts_more t before marks n keeps starts here k lt within start =
    ⊎_elim (λ below. keeps k (starts k below within start))
    (λ above. let same : k ≡ n = omega arith in
    subst (IsMarked marks) (sym same) (here (subst (λ x. IsStart t (cell_in t x)) same start)))
    (cases_lt k n)
