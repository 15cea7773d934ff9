-- Which of the kept parts hands to which.
use Rattle.std.proofs.Common.{◌≡◌, ◌⊎◌, ◌≢◌, ℕ, zero, suc, ◌+◌, ◌-◌, ◌<◌, ◌≤◌, List, refl, sym, ◌∙◌, ap, subst, inl, inr, ⊎_elim, arith}
use Rattle.std.proofs.lemmas.Int.{ints}
use Rattle.bt_parts.specs.declared.part.Cell.{Cell}
use Rattle.bt_parts.specs.declared.part.Dir.{Dir}
use Rattle.bt_parts.specs.declared.part.Dir.TheVariants.{North, East, South, West}
use Rattle.bt_parts.specs.declared.part.Kind.TheVariants as kind
use Rattle.bt_parts.specs.declared.part.Part.{Part}
use Rattle.bt_parts.specs.declared.part.Side.{Side}
use Rattle.bt_parts.specs.declared.part.Side.TheVariants.{Behind, Across, Ahead}
use Rattle.bt_parts.specs.Cells.{step, steps, opposite, Covers, IsInside}
use Rattle.bt_parts.specs.Handing.{ComesFrom, TakesFrom}
use Rattle.bt_parts.specs.Layouts.{HasPart, IsAt, IsPieceOn, Pairs, ArePaired, IsPieceAt}
use Rattle.bt_parts.specs.inner.Looking.{IsFirstPiece}
use Rattle.bt_parts.proofs.Pieces.{one_first, back_first}
use Rattle.bt_parts.proofs.Places.{same_part, one_there}
use Rattle.bt_parts.proofs.Steps.{opposite-opposite, steps_none}
use Rattle.bt_model.specs.Clean.{IsPaired, HasTwoFeeders, IsSeenAcross, IsSideLoaded, IsBlocked}
use Rattle.bt_model.specs.Handing.{LooksFrom, FeedsFrom, BlocksFrom}
use Rattle.bt_model.specs.Shown.{ListsEach}
use Rattle.bt_model.proofs.HandLemmas.{entrance_paired, one_handed}
use Rattle.bt_facts.specs.declared.fact.Fact.TheVariants.{Pair, Goes, Tunnel}
use Rattle.bt_facts.specs.declared.fact.Half.{Half}
use Rattle.bt_facts.specs.declared.fact.Shape.{Shape}
use Rattle.bt_facts.specs.declared.fact.Shape.TheVariants as shape
use Rattle.bt_facts.specs.Facts.{holds}
use Rattle.bt_rules.specs.Going.{runners, givers}
use Rattle.bt_rules.specs.Underground.{most_distance}
use Rattle.bt_facts.specs.Spots.{behind}
use Rattle.bt_rules.specs.Kept.{kind_of, handed, under, IsKeptPart}
use Rattle.bt_facts.proofs.Decided.{same_dir}
use Rattle.bt_facts.proofs.Geometry.{inside_between, behind_step}
use Rattle.bt_facts.proofs.Keeping.{In}
use Rattle.bt_rules.proofs.kept.Geometry.{no_opposite}
use Rattle.bt_rules.proofs.kept.Solved.{Solved, Says}
use Rattle.bt_rules.proofs.kept.CellFacts.{not_empty}
use Rattle.bt_rules.proofs.kept.GoingFacts.{Takes, by_belt, by_entrance, by_half, going_inside, giver_there, taker_there, runner_goes, half_goes, one_into}
use Rattle.bt_rules.proofs.kept.TunnelFacts.{pair_begins, entrance_there, exit_there, tunnel_between, entrance_tunnels, tunnel_no_exit, tunnel_passes}
use Rattle.bt_rules.proofs.kept.Arrivals.{Reached, reached_inside, FromEntrance, exit_reached}
use Rattle.bt_rules.proofs.kept.PartFacts.{home, part_on, part_there, standing, part_at, at_there, own_at, well_placed}

-- ---- shapes

-- what hands on is a belt, an exit or a half
pub data HandsOn : Shape → Type 0 where
  by_runner : (of : Shape) → In runners of → HandsOn of
  by_side : (half : Half) → HandsOn (shape.Half half)

hands_on : (of : Shape) → kind_of of ≢ kind.Entrance → HandsOn of
hands_on shape.Belt other = by_runner shape.Belt (inl refl)
hands_on shape.Entrance other = absurd (other refl)
hands_on shape.Exit other = by_runner shape.Exit (inr (inl refl))
hands_on (shape.Half half) other = by_side half

pub giver_no_entrance : (of : Shape) → In givers of → kind_of of ≢ kind.Entrance
giver_no_entrance of (inl e) k = let a = ap kind_of e in cc
giver_no_entrance of (inr (inl e)) k = let a = ap kind_of e in cc
giver_no_entrance of (inr (inr (inl e))) k = let a = ap kind_of e in cc
giver_no_entrance of (inr (inr (inr (inl e)))) k = let a = ap kind_of e in cc
giver_no_entrance of (inr (inr (inr (inr none)))) k = none

comes_along : (dir : Dir) (side : Side) → ComesFrom dir dir side → side ≡ Behind
comes_along dir Behind comes = refl
comes_along dir Across comes = absurd (comes.0 refl)
comes_along dir Ahead comes = absurd (no_opposite dir comes)

never_ahead : (dir turned : Dir) → opposite dir ≢ turned → dir ≡ opposite turned → ⊥
never_ahead dir turned apart e = apart (ap opposite e ∙ opposite-opposite turned)

pub entrance_of : (of : Shape) → kind_of of ≡ kind.Entrance → of ≡ shape.Entrance
entrance_of shape.Belt e = absurd (cc)
entrance_of shape.Entrance e = refl
entrance_of shape.Exit e = absurd (cc)
entrance_of (shape.Half half) e = absurd (cc)

exit_of : (of : Shape) → kind_of of ≡ kind.Exit → of ≡ shape.Exit
exit_of shape.Belt e = absurd (cc)
exit_of shape.Entrance e = absurd (cc)
exit_of shape.Exit e = refl
exit_of (shape.Half half) e = absurd (cc)

belt_of : (of : Shape) → kind_of of ≡ kind.Belt → of ≡ shape.Belt
belt_of shape.Belt e = refl
belt_of shape.Entrance e = absurd (cc)
belt_of shape.Exit e = absurd (cc)
belt_of (shape.Half half) e = absurd (cc)

pub half_of : (of : Shape) → kind_of of ≡ kind.Splitter → (half : Half) × (of ≡ shape.Half half)
half_of shape.Belt e = absurd (cc)
half_of shape.Entrance e = absurd (cc)
half_of shape.Exit e = absurd (cc)
half_of (shape.Half half) e = (half, refl)

-- ---- steps in a line

steps_more : (dir : Dir) (n m : ℕ) (c : Cell) → m ≡ n + 1 → step dir (steps n dir c) ≡ steps m dir c
steps_more North n m c e = ap (λ y. record { x = c.x; y = y }) (omega (arith, ints))
steps_more East n m c e = ap (λ x. record { x = x; y = c.y }) (omega (arith, ints))
steps_more South n m c e = ap (λ y. record { x = c.x; y = y }) (omega (arith, ints))
steps_more West n m c e = ap (λ x. record { x = x; y = c.y }) (omega (arith, ints))

-- ---- handing from cell to cell

-- the part p on this cell hands on to the part q in front
pub record Going (w : Solved) (parts : List Part) (p : ℕ) (c : Cell) (q : ℕ) : Type 0 where
  pub of : Shape
  pub dir : Dir
  pub reached : Reached w c
  pub says : Says w (holds c of dir)
  pub is_p : HasPart parts p (part_on w of dir c)
  pub above : kind_of of ≢ kind.Entrance
  pub goes : Says w (Goes c dir)
  pub there : IsAt parts q (step dir c)
  pub taker : Shape
  pub turned : Dir
  pub takes : Takes dir taker turned
  pub said : Says w (holds (step dir c) taker turned)
  pub is_q : HasPart parts q (part_on w taker turned (step dir c))

module _ (w : Solved) (parts : List Part) (lists : ListsEach (IsKeptPart w.r w.reading) parts) where
  -- where a part looks at another, it hands on
  pub look_going : (p : ℕ) (c : Cell) (q : ℕ) (side : Side) (look : LooksFrom parts p c q side) → Going w parts p c q
  look_going p c q side look =
      let here = standing w parts lists p c look.giver in
      let inside = reached_inside w c here.reached in
      let same : look.giver.part ≡ part_on w here.of here.dir c = same_part parts p look.giver.part (part_on w here.of here.dir c) look.giver.is_i here.is_i in
      let above : kind_of here.of ≢ kind.Entrance = λ e. look.no_entrance (ap (λ x. x.kind) same ∙ e) in
      let there : IsAt parts q (step here.dir c) = subst (λ d. IsAt parts q (step d c)) (ap (λ x. x.dir) same) look.taker in
      let front = standing w parts lists q (step here.dir c) there in
      let goes : Says w (Goes c here.dir) = going here.of here.dir inside (reached_inside w (step here.dir c) front.reached) here.says (hands_on here.of above) front.of front.dir front.says in
      let taker = taker_there w c inside here.dir goes in
      record {
        of = here.of;
        dir = here.dir;
        reached = here.reached;
        says = here.says;
        is_p = here.is_i;
        above = above;
        goes = goes;
        there = there;
        taker = taker.0;
        turned = taker.1;
        takes = taker.2;
        said = taker.3;
        is_q = part_at w parts lists q (step here.dir c) taker.0 taker.1 there taker.3;
      }
    where
      going : (of : Shape) (dir : Dir) → IsInside w.r.rect c → IsInside w.r.rect (step dir c) → Says w (holds c of dir) → HandsOn of
          → (other : Shape) (way : Dir) → Says w (holds (step dir c) other way) → Says w (Goes c dir)
      going x dir h i says (by_runner of runs) other way front = runner_goes w c h of dir runs i says
      going x dir h i says (by_side half) other way front =
          half_goes w c h half dir i says (λ empty. not_empty w (step dir c) i other way front empty)

  pub feeds_going : (p : ℕ) (c : Cell) (q : ℕ) → FeedsFrom parts p c q → Going w parts p c q
  feeds_going p c q feeds = look_going p c q feeds.side feeds.look

  -- what is handed on from a cell that is reached is fed to a part
  pub going_feeds : (c : Cell) (dir : Dir) → Reached w c → Says w (Goes c dir) → (p q : ℕ) → IsAt parts p c → IsAt parts q (step dir c) → FeedsFrom parts p c q
  going_feeds c dir reached goes p q at_p at_q =
      let inside = reached_inside w c reached in
      let giver = giver_there w c inside dir goes in
      let taker = taker_there w c inside dir goes in
      let is_p = part_at w parts lists p c giver.0 dir at_p giver.2 in
      let is_q = part_at w parts lists q (step dir c) taker.0 taker.1 at_q taker.3 in
      by giver.0 (giver_no_entrance giver.0 giver.1) is_p taker.0 taker.1 is_q taker.2
    where
      given : (of : Shape) → kind_of of ≢ kind.Entrance → HasPart parts p (part_on w of dir c) → (taker : Shape) (turned : Dir)
          → HasPart parts q (part_on w taker turned (step dir c)) → (side : Side) → ComesFrom dir turned side → TakesFrom (kind_of taker) side → FeedsFrom parts p c q
      given of above is_p taker turned is_q side comes takes = record {
        side = side;
        look = record {
          giver = at_there w parts lists p of dir c is_p;
          no_entrance = above;
          taker = at_there w parts lists q taker turned (step dir c) is_q;
          comes = comes;
        };
        takes = takes;
      }

      by : (of : Shape) → kind_of of ≢ kind.Entrance → HasPart parts p (part_on w of dir c) → (taker : Shape) (turned : Dir)
          → HasPart parts q (part_on w taker turned (step dir c)) → Takes dir taker turned → FeedsFrom parts p c q
      by of above is_p taker turned is_q (by_belt way apart) =
          ⊎_elim (λ e. given of above is_p shape.Belt way is_q Behind e (λ s. cc))
          (λ other. given of above is_p shape.Belt way is_q Across (other, never_ahead dir way apart) (λ s. cc))
          (same_dir dir way)
      by of above is_p taker turned is_q by_entrance = given of above is_p shape.Entrance dir is_q Behind refl refl
      by of above is_p taker turned is_q (by_half half) = given of above is_p (shape.Half half) dir is_q Behind refl refl

  -- the next cell has a part
  pub next_there : (c : Cell) (dir : Dir) → Reached w c → Says w (Goes c dir) → (q : ℕ) × IsAt parts q (step dir c)
  next_there c dir reached goes =
      let inside = reached_inside w c reached in
      let taker = taker_there w c inside dir goes in
      let found = part_there w parts lists taker.0 taker.1 (step dir c) (handed c dir reached (going_inside w c inside dir goes) goes) taker.3 in
      (found.0, at_there w parts lists found.0 taker.0 taker.1 (step dir c) found.1)

  -- ---- no part is blocked, and there is no side-loading

  pub none_blocked : (i : ℕ) → IsBlocked parts i → ⊥
  none_blocked i blocked =
      let b = blocked.1 in
      let look = b.look in
      let going = look_going i blocked.0 b.taker b.side look in
      let giver = same_part parts i look.giver.part (part_on w going.of going.dir blocked.0) look.giver.is_i going.is_p in
      let taker = same_part parts b.taker look.taker.part (part_on w going.taker going.turned (step going.dir blocked.0)) look.taker.is_i going.is_q in
      let comes : ComesFrom going.dir going.turned b.side =
      subst (λ d. ComesFrom d going.turned b.side) (ap (λ x. x.dir) giver) (subst (λ d. ComesFrom look.giver.part.dir d b.side) (ap (λ x. x.dir) taker) look.comes) in
      let blocks : BlocksFrom (kind_of going.taker) b.side = subst (λ k. BlocksFrom k b.side) (ap (λ x. x.kind) taker) b.blocked in
      by going.dir going.taker going.turned b.side going.takes comes blocks
    where
      by : (dir : Dir) (of : Shape) (turned : Dir) (side : Side) → Takes dir of turned → ComesFrom dir turned side → BlocksFrom (kind_of of) side → ⊥
      by dir of turned side (by_belt way apart) comes blocks = never_ahead dir way apart (subst (λ s. ComesFrom dir way s) blocks comes)
      by dir of turned side by_entrance comes blocks = no_opposite dir (subst (λ s. ComesFrom dir dir s) blocks comes)
      by dir of turned side (by_half half) comes blocks = blocks (comes_along dir side comes)

  none_across : (i : ℕ) → IsSeenAcross parts i → ⊥
  none_across i seen =
      let look = seen.look in
      let going = look_going seen.giver seen.half i Across look in
      let giver = same_part parts seen.giver look.giver.part (part_on w going.of going.dir seen.half) look.giver.is_i going.is_p in
      let taker = same_part parts i look.taker.part (part_on w going.taker going.turned (step going.dir seen.half)) look.taker.is_i going.is_q in
      let comes : ComesFrom going.dir going.turned Across =
      subst (λ d. ComesFrom d going.turned Across) (ap (λ x. x.dir) giver) (subst (λ d. ComesFrom look.giver.part.dir d Across) (ap (λ x. x.dir) taker) look.comes) in
      by going.dir going.taker going.turned going.takes comes (subst (λ k. (k ≡ kind.Entrance) ⊎ (k ≡ kind.Exit)) (ap (λ x. x.kind) taker) seen.underground)
    where
      by : (dir : Dir) (of : Shape) (turned : Dir) → Takes dir of turned → ComesFrom dir turned Across → (kind_of of ≡ kind.Entrance) ⊎ (kind_of of ≡ kind.Exit) → ⊥
      by dir of turned (by_belt way apart) comes (inl e) = cc
      by dir of turned (by_belt way apart) comes (inr e) = cc
      by dir of turned by_entrance comes piece = comes.0 refl
      by dir of turned (by_half half) comes (inl e) = cc
      by dir of turned (by_half half) comes (inr e) = cc

  -- two that hand to one cell stand on one cell
  pub one_near : (c : Cell) (a b : Cell) (d e : Dir) → IsInside w.r.rect c → Reached w a → Reached w b → Says w (Goes a d) → Says w (Goes b e)
      → step d a ≡ c → step e b ≡ c → (a ≡ b) × (d ≡ e)
  one_near c a b d e inside reached_a reached_b goes_a goes_b to_a to_b =
      let back_a : behind d c ≡ a = ap (behind d) (sym to_a) ∙ behind_step d a in
      let back_b : behind e c ≡ b = ap (behind e) (sym to_b) ∙ behind_step e b in
      let dirs : d ≡ e = one_into w c inside d e (subst (IsInside w.r.rect) (sym back_a) (reached_inside w a reached_a))
      (subst (IsInside w.r.rect) (sym back_b) (reached_inside w b reached_b))
      (subst (λ x. Says w (Goes x d)) (sym back_a) goes_a) (subst (λ x. Says w (Goes x e)) (sym back_b) goes_b) in
      (sym back_a ∙ ap (λ x. behind x c) dirs ∙ back_b, dirs)

  none_two : (i : ℕ) → HasTwoFeeders parts i → ⊥
  none_two i two =
      let one = two.one_feeds in
      let other = two.two_feeds in
      let a = feeds_going two.one one.0 i one.1 in
      let b = feeds_going two.two other.0 i other.1 in
      let to_a : step a.dir one.0 ≡ two.belt.cell = own a.taker a.turned (step a.dir one.0) two.belt two.kind (same_part parts i _ two.belt a.is_q two.is_i) in
      let to_b : step b.dir other.0 ≡ two.belt.cell = own b.taker b.turned (step b.dir other.0) two.belt two.kind (same_part parts i _ two.belt b.is_q two.is_i) in
      let near = one_near two.belt.cell one.0 other.0 a.dir b.dir
      (subst (IsInside w.r.rect) to_a (reached_inside w _ (handed one.0 a.dir a.reached (going_inside w one.0 (reached_inside w one.0 a.reached) a.dir a.goes) a.goes)))
      a.reached b.reached a.goes b.goes to_a to_b in
      two.apart (one_there parts (well_placed w parts lists) two.one two.two other.0
      (subst (IsAt parts two.one) near.0 one.1.look.giver) other.1.look.giver)
    where
      own : (of : Shape) (turned : Dir) (c : Cell) (belt : Part) → belt.kind ≡ kind.Belt → part_on w of turned c ≡ belt → c ≡ belt.cell
      own of turned c belt k same =
          let is : of ≡ shape.Belt = belt_of of (ap (λ x. x.kind) same ∙ k) in
          ap (λ s. home s turned c) (sym is) ∙ ap (λ x. x.cell) same

  pub none_side_loaded : (i : ℕ) → IsSideLoaded parts i → ⊥
  none_side_loaded i (inl two) = none_two i two
  none_side_loaded i (inr seen) = none_across i seen

  -- ---- pairs

  -- an entrance and the exit at its distance
  pub pair_there : (c : Cell) (dir : Dir) (k i j : ℕ) → Reached w c → 1 ≤ k → k ≤ most_distance w.r → IsInside w.r.rect (steps k dir c) → Says w (Pair c dir k)
      → HasPart parts i (part_on w shape.Entrance dir c) → HasPart parts j (part_on w shape.Exit dir (steps k dir c)) → Pairs parts i j
  pair_there c dir k i j reached some few there far is_i is_j = record {
    entrance = part_on w shape.Entrance dir c;
    is_a = is_i;
    enters = refl;
    exit = part_on w shape.Exit dir (steps k dir c);
    is_b = is_j;
    leaves = refl;
    same_tier = refl;
    same_dir = refl;
    distance = k;
    apart = omega arith;
    within = few;
    ahead = refl;
    none_between = λ d x part d_some d_lt is_x covers piece. between d x part d_some d_lt is_x covers piece;
  } where
    inside : IsInside w.r.rect c
    inside = reached_inside w c reached

    tunnel_at : (n : ℕ) → n < k → Says w (Tunnel (steps n dir c) dir)
    tunnel_at zero lt = subst (λ x. Says w (Tunnel x dir)) (sym (steps_none dir c)) (entrance_tunnels w c inside dir (entrance_there w c inside dir k some few there far))
    tunnel_at (suc n) lt = tunnel_between w c inside dir k some few there far (suc n) (omega arith) lt

    between : (d x : ℕ) (part : Part) → 0 < d → d < k → HasPart parts x part → Covers part (steps d dir c) → IsPieceOn w.r.tier dir part → ⊥
    between d x part d_some d_lt is_x covers piece =
        let at : IsAt parts x (steps d dir c) = record { part = part; is_i = is_x; covers = covers } in
        let here = standing w parts lists x (steps d dir c) at in
        let same : part ≡ part_on w here.of here.dir (steps d dir c) = same_part parts x part _ is_x here.is_i in
        let near = inside_between w.r.rect dir (d - 1) k c inside there (omega arith) in
        let next : step dir (steps (d - 1) dir c) ≡ steps d dir c = steps_more dir (d - 1) d c (omega arith) in
        let passes = tunnel_passes w (steps (d - 1) dir c) near dir (subst (IsInside w.r.rect) (sym next) (reached_inside w _ here.reached)) (tunnel_at (d - 1) (omega arith)) in
        by here.of here.dir (subst (λ k. (k ≡ kind.Entrance) ⊎ (k ≡ kind.Exit)) (ap (λ z. z.kind) same) piece.0)
        (subst (λ e. (e ≡ dir) ⊎ (e ≡ opposite dir)) (ap (λ z. z.dir) same) piece.2) here.says
        (λ s. passes.0 (subst (λ z. Says w (holds z shape.Entrance dir)) (sym next) s))
        (λ s. passes.1 (subst (λ z. Says w (holds z shape.Entrance (opposite dir))) (sym next) s))
        (λ s. passes.2 (subst (λ z. Says w (holds z shape.Exit (opposite dir))) (sym next) s))
        (tunnel_no_exit w (steps d dir c) (reached_inside w _ here.reached) dir (tunnel_at d d_lt))
      where
        by : (of : Shape) (turned : Dir) → (kind_of of ≡ kind.Entrance) ⊎ (kind_of of ≡ kind.Exit) → (turned ≡ dir) ⊎ (turned ≡ opposite dir) → Says w (holds (steps d dir c) of turned)
            → (Says w (holds (steps d dir c) shape.Entrance dir) → ⊥) → (Says w (holds (steps d dir c) shape.Entrance (opposite dir)) → ⊥)
            → (Says w (holds (steps d dir c) shape.Exit (opposite dir)) → ⊥) → (Says w (holds (steps d dir c) shape.Exit dir) → ⊥) → ⊥
        by of turned (inl a) (inl b) says x y z v = x (subst (λ e. Says w (holds (steps d dir c) shape.Entrance e)) b (subst (λ s. Says w (holds (steps d dir c) s turned)) (entrance_of of a) says))
        by of turned (inl a) (inr b) says x y z v = y (subst (λ e. Says w (holds (steps d dir c) shape.Entrance e)) b (subst (λ s. Says w (holds (steps d dir c) s turned)) (entrance_of of a) says))
        by of turned (inr a) (inl b) says x y z v = v (subst (λ e. Says w (holds (steps d dir c) shape.Exit e)) b (subst (λ s. Says w (holds (steps d dir c) s turned)) (exit_of of a) says))
        by of turned (inr a) (inr b) says x y z v = z (subst (λ e. Says w (holds (steps d dir c) shape.Exit e)) b (subst (λ s. Says w (holds (steps d dir c) s turned)) (exit_of of a) says))

  -- the pair of an entrance that is reached
  pub record PairOf (c : Cell) (dir : Dir) (i : ℕ) : Type 0 where
    pub distance : ℕ
    pub some : 1 ≤ distance
    pub few : distance ≤ most_distance w.r
    pub there : IsInside w.r.rect (steps distance dir c)
    pub far : Says w (Pair c dir distance)
    pub exit : ℕ
    pub is_exit : HasPart parts exit (part_on w shape.Exit dir (steps distance dir c))
    pub pair : Pairs parts i exit

  pub entrance_pair : (c : Cell) (dir : Dir) (i : ℕ) → Reached w c → Says w (holds c shape.Entrance dir) → HasPart parts i (part_on w shape.Entrance dir c) → PairOf c dir i
  entrance_pair c dir i reached entrance is_i =
      let far = pair_begins w c (reached_inside w c reached) dir entrance in
      let there = exit_there w c (reached_inside w c reached) dir far.0 far.1 far.2 far.3 far.4 in
      let exit = part_there w parts lists shape.Exit dir (steps far.0 dir c) (under c dir far.0 reached far.3 far.1 far.2 far.4) there in
      record {
        distance = far.0;
        some = far.1;
        few = far.2;
        there = far.3;
        far = far.4;
        exit = exit.0;
        is_exit = exit.1;
        pair = pair_there c dir far.0 i exit.0 reached far.1 far.2 far.3 far.4 is_i exit.1;
      }

  -- and of an exit that is reached
  pub exit_pair : (c : Cell) (dir : Dir) (j : ℕ) → Reached w c → Says w (holds c shape.Exit dir) → HasPart parts j (part_on w shape.Exit dir c)
      → (from : FromEntrance w c dir) × (i : ℕ) × HasPart parts i (part_on w shape.Entrance dir from.near) × Pairs parts i j
  exit_pair c dir j reached exit is_j =
      let from = exit_reached w c dir reached exit in
      let entrance = part_there w parts lists shape.Entrance dir from.near from.reached
      (entrance_there w from.near (reached_inside w from.near from.reached) dir from.distance from.some from.few from.there from.far) in (
        from,
        entrance.0,
        entrance.1,
        pair_there from.near dir from.distance entrance.0 j from.reached from.some from.few from.there from.far entrance.1
            (subst (λ x. HasPart parts j (part_on w shape.Exit dir x)) from.ahead is_j),
      )

  -- an exit has one entrance
  pub one_entrance : (a b j : ℕ) → Pairs parts a j → Pairs parts b j → a ≡ b
  one_entrance a b j p q =
      one_first parts q.exit (opposite q.exit.dir) (well_placed w parts lists) a b
      (subst (λ e. IsFirstPiece parts e (opposite e.dir) a) (same_part parts j p.exit q.exit p.is_b q.is_b) (back_first parts a j p))
      (back_first parts b j q)

  entrance_link : (i : ℕ) (c : Cell) (dir : Dir) → HasPart parts i (part_on w shape.Entrance dir c) → (part : Part) × HasPart parts i part × (part.kind ≢ kind.Splitter)
  entrance_link i c dir is_i = (part_on w shape.Entrance dir c, is_i, λ e. cc)

  pub pieces_paired : (i : ℕ) → IsPieceAt parts i → IsPaired parts i
  pieces_paired i piece =
      let here = standing w parts lists i piece.0.cell (own_at w parts lists i piece.0 piece.1) in
      let same : piece.0 ≡ part_on w here.of here.dir piece.0.cell = same_part parts i piece.0 _ piece.1 here.is_i in
      by piece.0.cell here.of here.dir here.reached here.says here.is_i (subst (λ k. (k ≡ kind.Entrance) ⊎ (k ≡ kind.Exit)) (ap (λ z. z.kind) same) piece.2)
    where
      of_entrance : (c : Cell) (dir : Dir) → Reached w c → Says w (holds c shape.Entrance dir) → HasPart parts i (part_on w shape.Entrance dir c) → IsPaired parts i
      of_entrance c dir reached says is_i =
          let pair = entrance_pair c dir i reached says is_i in
          record {
            other = pair.exit;
            paired = inl pair.pair;
            no_other = λ j paired. one_handed parts (well_placed w parts lists) i j pair.exit (entrance_link i c dir is_i)
                (inl (entrance_paired parts i j (part_on w shape.Entrance dir c) is_i refl paired)) (inl pair.pair);
          }

      of_exit : (c : Cell) (dir : Dir) → Reached w c → Says w (holds c shape.Exit dir) → HasPart parts i (part_on w shape.Exit dir c) → IsPaired parts i
      of_exit c dir reached says is_i =
          let pair = exit_pair c dir i reached says is_i in
          record {
            other = pair.1;
            paired = inr pair.3;
            no_other = λ j paired. other c dir is_i pair.1 pair.3 j paired;
          }
        where
          other : (c : Cell) (dir : Dir) → HasPart parts i (part_on w shape.Exit dir c) → (a : ℕ) → Pairs parts a i → (j : ℕ) → ArePaired parts i j → j ≡ a
          other c dir is_i a pair j (inl wrong) = absurd (let e = wrong.enters in let same = ap (λ z. z.kind) (same_part parts i wrong.entrance _ wrong.is_a is_i) in cc)
          other c dir is_i a pair j (inr right) = one_entrance j a i right pair

      by : (c : Cell) (of : Shape) (dir : Dir) → Reached w c → Says w (holds c of dir) → HasPart parts i (part_on w of dir c)
          → (kind_of of ≡ kind.Entrance) ⊎ (kind_of of ≡ kind.Exit) → IsPaired parts i
      by c of dir reached says is_i (inl e) =
          of_entrance c dir reached (subst (λ s. Says w (holds c s dir)) (entrance_of of e) says) (subst (λ s. HasPart parts i (part_on w s dir c)) (entrance_of of e) is_i)
      by c of dir reached says is_i (inr e) =
          of_exit c dir reached (subst (λ s. Says w (holds c s dir)) (exit_of of e) says) (subst (λ s. HasPart parts i (part_on w s dir c)) (exit_of of e) is_i)
