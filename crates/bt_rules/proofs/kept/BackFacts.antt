-- What hands to a half of a splitter, or out of the rectangle, is reached: no closed ring comes there.
use Rattle.std.proofs.Common.{◌≡◌, ◌⊎◌, ℕ, zero, suc, ◌+◌, ◌*◌, ◌/◌, ◌%◌, ◌<◌, ◌≤◌, List, [], ◌∷◌, length, get_or, refl, sym, ◌∙◌, ap, subst, inl, inr, ⊎_elim, arith}
use Rattle.std.specs.Prelude.{unsigned_abs}
use Rattle.std.proofs.lemmas.Nat.{div-mul-add, mod-mul-add}
use Rattle.std.proofs.Math.Nat.{mul-le-mul_right}
use Rattle.bt_parts.specs.declared.part.Cell.{Cell}
use Rattle.bt_parts.specs.declared.part.Dir.{Dir}
use Rattle.bt_parts.specs.declared.part.Rect.{Rect}
use Rattle.bt_parts.specs.Cells.{step, steps, IsInside}
use Rattle.bt_model.proofs.PathLemmas.{crowded}
use Rattle.bt_facts.specs.declared.fact.Content.{Content}
use Rattle.bt_facts.specs.declared.fact.Content.TheVariants.{Empty, Turned}
use Rattle.bt_facts.specs.declared.fact.Fact.TheVariants.{Kind, HalfOn, Goes, Pair}
use Rattle.bt_facts.specs.declared.fact.Shape.{Shape}
use Rattle.bt_facts.specs.declared.fact.Shape.TheVariants as shape
use Rattle.bt_facts.specs.Facts.{holds}
use Rattle.bt_rules.specs.Kept.{kind_of, begun, half, handed, under}
use Rattle.bt_rules.specs.Going.{runners}
use Rattle.bt_facts.specs.Spots.{behind}
use Rattle.bt_facts.specs.declared.fact.Half.{Half}
use Rattle.bt_rules.specs.Underground.{most_distance, back}
use Rattle.bt_facts.proofs.Geometry.{steps_back, step_behind}
use Rattle.bt_facts.proofs.Keeping.{In}
use Rattle.bt_rules.proofs.kept.Geometry.{across, same_spot}
use Rattle.bt_rules.proofs.kept.Solved.{Solved, Says, said, not_said}
use Rattle.bt_rules.proofs.kept.CellFacts.{content_of, one_shape, one_dir, not_empty, half_on, half_there}
use Rattle.bt_rules.proofs.kept.GoingFacts.{giver_there, outside_still, belt_fed, entrance_fed}
use Rattle.bt_rules.proofs.kept.TunnelFacts.{one_pair, pair_ends, entrance_there}
use Rattle.bt_rules.proofs.kept.Arrivals.{Reached}
use Rattle.bt_rules.proofs.kept.HandFacts.{giver_no_entrance}

-- the number of a cell, row by row
abbrev spot_in : Rect → Cell → ℕ
spot_in rect c = unsigned_abs c.y * rect.width + unsigned_abs c.x

spot_within : (rect : Rect) (c : Cell) → IsInside rect c → spot_in rect c < rect.width * rect.height
spot_within rect c h =
    let at = across rect c h in
    let rows : (unsigned_abs c.y + 1) * rect.width ≤ rect.height * rect.width =
    mul-le-mul_right rect.width (let y : unsigned_abs c.y + 1 ≤ rect.height = omega (arith, at.1) in y) in
    omega (arith, at.0)

spot_one : (rect : Rect) (c d : Cell) → IsInside rect c → IsInside rect d → spot_in rect c ≡ spot_in rect d → c ≡ d
spot_one rect c d h k e =
    let a = (across rect c h).0 in
    let b = (across rect d k).0 in
    same_spot rect c d h k
    (sym (mod-mul-add (unsigned_abs c.y) rect.width (unsigned_abs c.x) a) ∙ ap (λ n. n % rect.width) e ∙ mod-mul-add (unsigned_abs d.y) rect.width (unsigned_abs d.x) b)
    (sym (div-mul-add (unsigned_abs c.y) rect.width (unsigned_abs c.x) a) ∙ ap (λ n. n / rect.width) e ∙ div-mul-add (unsigned_abs d.y) rect.width (unsigned_abs d.x) b)

module _ (w : Solved) where
  -- what comes to the one cell goes on to the other
  data Follows (c d : Cell) : Type 0 where
    by_hand : (dir : Dir) → Says w (Goes c dir) → d ≡ step dir c → Follows c d
    by_pair : (dir : Dir) (k : ℕ) → 1 ≤ k → k ≤ most_distance w.r → IsInside w.r.rect (steps k dir c) → Says w (Pair c dir k) → d ≡ steps k dir c → Follows c d

  -- and from one cell to one alone
  follows_once : (c : Cell) → IsInside w.r.rect c → (d e : Cell) → Follows c d → Follows c e → d ≡ e
  follows_once c h d e (by_hand x x_goes x_at) (by_hand y y_goes y_at) =
      let a = giver_there w c h x x_goes in
      let b = giver_there w c h y y_goes in
      x_at ∙ ap (λ z. step z c) (one_dir w c h a.0 b.0 x y a.2 b.2) ∙ sym y_at
  follows_once c h d e (by_hand x goes x_at) (by_pair y k some few there pair y_at) =
      let a = giver_there w c h x goes in
      absurd (giver_no_entrance a.0 a.1 (ap kind_of (one_shape w c h a.0 shape.Entrance x y a.2 (entrance_there w c h y k some few there pair))))
  follows_once c h d e (by_pair y k some few there pair y_at) (by_hand x goes x_at) =
      let a = giver_there w c h x goes in
      absurd (giver_no_entrance a.0 a.1 (ap kind_of (one_shape w c h a.0 shape.Entrance x y a.2 (entrance_there w c h y k some few there pair))))
  follows_once c h d e (by_pair x k x_some x_few x_in x_pair x_at) (by_pair y j y_some y_few y_in y_pair y_at) =
      let dirs : x ≡ y = one_dir w c h shape.Entrance shape.Entrance x y (entrance_there w c h x k x_some x_few x_in x_pair) (entrance_there w c h y j y_some y_few y_in y_pair) in
      let far : k ≡ j = one_pair w c h y k j x_some x_few (subst (λ z. IsInside w.r.rect (steps k z c)) dirs x_in) (subst (λ z. Says w (Pair c z k)) dirs x_pair) y_some y_few y_in y_pair in
      x_at ∙ ap (λ z. steps k z c) dirs ∙ ap (λ z. steps z y c) far ∙ sym y_at

  -- what comes to the cell goes on to a half, or nowhere
  abbrev Stops : Cell → Type 0
  Stops c = (d : Cell) → Follows c d → (Says w (HalfOn d) → ⊥) → ⊥

  -- cells that lead one to the next and to where that stops, by their numbers
  data Leads : Cell → List ℕ → Type 0 where
    ends : (c : Cell) → IsInside w.r.rect c → (Says w (HalfOn c) → ⊥) → (Says w (Kind c Empty) → ⊥) → Stops c → Leads c (spot_in w.r.rect c ∷ [])
    more : (c d : Cell) (rest : List ℕ) → IsInside w.r.rect c → (Says w (HalfOn c) → ⊥) → Follows c d → Leads d rest → Leads c (spot_in w.r.rect c ∷ rest)

  leads_inside : (c : Cell) (xs : List ℕ) → Leads c xs → IsInside w.r.rect c
  leads_inside c xs (ends d h off full stops) = h
  leads_inside c xs (more d e rest h off on way) = h

  leads_no_half : (c : Cell) (xs : List ℕ) → Leads c xs → Says w (HalfOn c) → ⊥
  leads_no_half c xs (ends d h off full stops) = off
  leads_no_half c xs (more d e rest h off on way) = off

  -- from one cell on they are equally many
  leads_same : (c d : Cell) (xs ys : List ℕ) → Leads c xs → Leads d ys → c ≡ d → length xs ≡ length ys
  leads_same c d xs ys (ends a h off full stops) (ends b k not_on filled ending) e = refl
  leads_same c d xs ys (ends a h off full stops) (more b f rest k not_on on way) e =
      absurd (stops f (subst (λ x. Follows x f) (sym e) on) (leads_no_half f rest way))
  leads_same c d xs ys (more a f rest h off on way) (ends b k not_on filled ending) e =
      absurd (ending f (subst (λ x. Follows x f) e on) (leads_no_half f rest way))
  leads_same c d xs ys (more a f rest h off on way) (more b g tail k not_on gives path) e =
      ap suc (leads_same f g rest tail way path (follows_once c h f g on (subst (λ x. Follows x g) (sym e) gives)))

  -- the cell at a place of them leads on by the rest
  leads_at : (c : Cell) (xs : List ℕ) → Leads c xs → (k : ℕ) → k < length xs
      → (d : Cell) × (ys : List ℕ) × Leads d ys × (get_or xs k 0 ≡ spot_in w.r.rect d) × (k + length ys ≡ length xs)
  leads_at c xs (ends a h off full stops) zero lt = (c, spot_in w.r.rect c ∷ [], ends c h off full stops, refl, omega arith)
  leads_at c xs (ends a h off full stops) (suc k) lt = absurd (omega arith)
  leads_at c xs (more a d rest h off on way) zero lt = (c, spot_in w.r.rect c ∷ rest, more c d rest h off on way, refl, omega arith)
  leads_at c xs (more a d rest h off on way) (suc k) lt =
      let found = leads_at d rest way k (omega arith) in
      (found.0, found.1, found.2, found.3, (let e = found.4 in omega arith))

  -- so they are no more than there are cells
  not_long : (c : Cell) (xs : List ℕ) → Leads c xs → w.r.rect.width * w.r.rect.height < length xs → ⊥
  not_long c xs way many =
      let twice = crowded (w.r.rect.width * w.r.rect.height) xs many (λ k lt.
      let found = leads_at c xs way k lt in
      subst (λ n. n < w.r.rect.width * w.r.rect.height) (sym found.3) (spot_within w.r.rect found.0 (leads_inside found.0 found.1 found.2))) in
      let i = twice.0 in let j = twice.1 in
      let i_lt : i < length xs = let a = twice.2 in let b = twice.3 in omega arith in
      let a = leads_at c xs way i i_lt in
      let b = leads_at c xs way j twice.3 in
      let same : a.0 ≡ b.0 = spot_one w.r.rect a.0 b.0 (leads_inside a.0 a.1 a.2) (leads_inside b.0 b.1 b.2) (sym a.3 ∙ twice.4 ∙ b.3) in
      let lengths = leads_same a.0 b.0 a.1 b.1 a.2 b.2 same in
      let lt = twice.2 in let x = a.4 in let y = b.4 in
      omega arith

  -- a cell is reached where what comes to it is
  reached_after : (d c : Cell) → IsInside w.r.rect c → Reached w d → Follows d c → Reached w c
  reached_after d c h on (by_hand dir goes at) = subst (Reached w) (sym at) (handed d dir on (subst (IsInside w.r.rect) at h) goes)
  reached_after d c h on (by_pair dir k some few there pair at) = subst (Reached w) (sym at) (under d dir k on there some few pair)

  -- one step back
  step_back : (c : Cell) (h : IsInside w.r.rect c) → (Says w (HalfOn c) → ⊥) → (content : Content) → Says w (Kind c content)
      → (Says w (Kind c Empty) → ⊥) → Reached w c ⊎ ((d : Cell) × IsInside w.r.rect d × Follows d c)
  step_back c h off Empty says full = absurd (full says)
  step_back c h off (Turned shape.Belt dir) says full =
      ⊎_elim (λ begins. inl (begun c h begins)) (λ fed. inr (behind fed.0 c, fed.1.0, by_hand fed.0 fed.1.1 (sym (step_behind fed.0 c)))) (belt_fed w c h dir says)
  step_back c h off (Turned shape.Entrance dir) says full =
      ⊎_elim (λ begins. inl (begun c h begins)) (λ fed. inr (behind fed.0 c, fed.1.0, by_hand fed.0 fed.1.1 (sym (step_behind fed.0 c)))) (entrance_fed w c h dir says)
  step_back c h off (Turned shape.Exit dir) says full =
      let pair = pair_ends w c h dir says in
      let there : c ≡ steps pair.0 dir (back pair.0 dir c) = sym (steps_back dir pair.0 c) in
      inr (back pair.0 dir c, pair.3, by_pair dir pair.0 pair.1 pair.2 (subst (IsInside w.r.rect) there h) pair.4 there)
  step_back c h off (Turned (shape.Half side) dir) says full = absurd (off (half_on w c h side dir says))

  full_of : (c d : Cell) → IsInside w.r.rect c → Follows c d → Says w (Kind c Empty) → ⊥
  full_of c d h (by_hand dir goes at) empty = let a = giver_there w c h dir goes in not_empty w c h a.0 dir a.2 empty
  full_of c d h (by_pair dir k some few there pair at) empty = not_empty w c h shape.Entrance dir (entrance_there w c h dir k some few there pair) empty

  leads_full : (c : Cell) (xs : List ℕ) → Leads c xs → Says w (Kind c Empty) → ⊥
  leads_full c xs (ends a h off full stops) = full
  leads_full c xs (more a d rest h off on way) = full_of c d h on

  -- as far back as one likes, or a cell is reached
  run_back : (fuel : ℕ) (c : Cell) (xs : List ℕ) → Leads c xs → w.r.rect.width * w.r.rect.height < length xs + fuel → Reached w c
  run_back zero c xs way many = absurd (not_long c xs way (omega arith))
  run_back (suc fuel) c xs way many =
      let h = leads_inside c xs way in
      let content = content_of w c h in
      ⊎_elim (λ reached. reached)
      (λ before.
      ⊎_elim
      (λ on. reached_after before.0 c h (half before.0 before.1 on) before.2)
      (λ off. reached_after before.0 c h (run_back fuel before.0 (spot_in w.r.rect before.0 ∷ xs)
      (more before.0 c xs before.1 (not_said w (HalfOn before.0) off) before.2 way) (omega arith)) before.2)
      (said w (HalfOn before.0)))
      (step_back c h (leads_no_half c xs way) content.0 content.1 (leads_full c xs way))

  reached_stop : (c : Cell) → IsInside w.r.rect c → (Says w (HalfOn c) → ⊥) → (Says w (Kind c Empty) → ⊥) → Stops c → Reached w c
  reached_stop c h off full stops =
      run_back (w.r.rect.width * w.r.rect.height) c (spot_in w.r.rect c ∷ []) (ends c h off full stops) (omega arith)

  -- what hands to a half is reached
  pub giver_reached : (c : Cell) (dir : Dir) → IsInside w.r.rect c → Says w (Goes c dir) → Says w (HalfOn (step dir c)) → Reached w c
  giver_reached c dir h goes on =
      ⊎_elim (λ here. half c h here)
      (λ off. reached_stop c h (not_said w (HalfOn c) off) (full_of c (step dir c) h (by_hand dir goes refl))
      (λ d follows no_half. no_half (subst (λ x. Says w (HalfOn x)) (follows_once c h (step dir c) d (by_hand dir goes refl) follows) on)))
      (said w (HalfOn c))

  -- and so is a belt or an exit that faces the outside
  pub ender_reached : (c : Cell) (of : Shape) (dir : Dir) → IsInside w.r.rect c → In runners of → Says w (holds c of dir) → (IsInside w.r.rect (step dir c) → ⊥) → Reached w c
  ender_reached c of dir h runs says out = reached_stop c h
      (λ on. let there = half_there w c h on in no_half runs there.0 (one_shape w c h of (shape.Half there.0) dir there.1 says there.2))
      (λ empty. not_empty w c h of dir says empty)
      (λ d follows no_more. stop d follows)
    where
      no_half : In runners of → (side : Half) → of ≡ shape.Half side → ⊥
      no_half (inl e) side same = cc
      no_half (inr (inl e)) side same = cc
      no_half (inr (inr none)) side same = none

      no_entrance : In runners of → of ≡ shape.Entrance → ⊥
      no_entrance (inl e) same = cc
      no_entrance (inr (inl e)) same = cc
      no_entrance (inr (inr none)) same = none

      stop : (d : Cell) → Follows c d → ⊥
      stop d (by_hand way goes at) =
          let a = giver_there w c h way goes in
          outside_still w c h dir out (subst (λ x. Says w (Goes c x)) (one_dir w c h a.0 of way dir a.2 says) goes)
      stop d (by_pair way k some few there pair at) =
          no_entrance runs (one_shape w c h of shape.Entrance dir way says (entrance_there w c h way k some few there pair))
