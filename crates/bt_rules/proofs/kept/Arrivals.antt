-- How a cell is reached, by what it holds.
use Rattle.std.proofs.Common.{◌≡◌, ◌⊎◌, ◌≢◌, ℕ, ◌≤◌, refl, ap, subst, inl, inr, ⊎_elim}
use Rattle.bt_parts.specs.declared.part.Cell.{Cell}
use Rattle.bt_parts.specs.declared.part.Dir.{Dir}
use Rattle.bt_parts.specs.Cells.{step, steps, IsInside}
use Rattle.bt_facts.specs.declared.fact.Fact.TheVariants.{Pair, Begins, Goes}
use Rattle.bt_facts.specs.declared.fact.Half.{Half}
use Rattle.bt_facts.specs.declared.fact.Shape.{Shape}
use Rattle.bt_facts.specs.declared.fact.Shape.TheVariants as shape
use Rattle.bt_facts.specs.Facts.{holds}
use Rattle.bt_rules.specs.Underground.{most_distance}
use Rattle.bt_rules.specs.Kept.{begun, half, handed, under, IsReached}
use Rattle.bt_rules.proofs.kept.Solved.{Solved, Says}
use Rattle.bt_rules.proofs.kept.CellFacts.{one_shape, one_dir, half_there}
use Rattle.bt_rules.proofs.kept.GoingFacts.{Takes, by_belt, by_entrance, by_half, taker_there, begun_there}
use Rattle.bt_rules.proofs.kept.TunnelFacts.{exit_there}

-- the cell is reached
abbrev pub Reached : Solved → Cell → Type 0
Reached w c = IsReached w.r w.reading c

pub reached_inside : (w : Solved) (c : Cell) → Reached w c → IsInside w.r.rect c
reached_inside w d (begun c i s) = i
reached_inside w d (half c i s) = i
reached_inside w d (handed b dir on i goes) = i
reached_inside w d (under b dir k on i some few far) = i

-- what takes is no exit
pub takes_no_exit : (dir : Dir) (of : Shape) (turned : Dir) → Takes dir of turned → of ≢ shape.Exit
takes_no_exit dir of turned (by_belt t apart) e = cc
takes_no_exit dir of turned by_entrance e = cc
takes_no_exit dir of turned (by_half h) e = cc

-- the entrance of an exit that is reached
pub record FromEntrance (w : Solved) (c : Cell) (dir : Dir) : Type 0 where
  pub near : Cell
  pub distance : ℕ
  pub reached : Reached w near
  pub some : 1 ≤ distance
  pub few : distance ≤ most_distance w.r
  pub there : IsInside w.r.rect (steps distance dir near)
  pub far : Says w (Pair near dir distance)
  pub ahead : c ≡ steps distance dir near

pub exit_reached : (w : Solved) (c : Cell) (dir : Dir) → Reached w c → Says w (holds c shape.Exit dir) → FromEntrance w c dir
exit_reached w x dir (begun c i s) exit =
    let there = begun_there w c i s in
    absurd (⊎_elim
    (λ t. let e = one_shape w c i shape.Exit shape.Belt dir there.0 exit t in cc)
    (λ t. let e = one_shape w c i shape.Exit shape.Entrance dir there.0 exit t in cc) there.2)
exit_reached w x dir (half c i s) exit =
    let there = half_there w c i s in
    absurd (let e = one_shape w c i shape.Exit (shape.Half there.0) dir there.1 exit there.2 in cc)
exit_reached w x dir (handed b way on i goes) exit =
    let taker = taker_there w b (reached_inside w b on) way goes in
    absurd (takes_no_exit way taker.0 taker.1 taker.2 (one_shape w (step way b) i taker.0 shape.Exit taker.1 dir taker.3 exit))
exit_reached w x dir (under b way k on i some few far) exit =
    let there = exit_there w b (reached_inside w b on) way k some few i far in
    let same : way ≡ dir = one_dir w (steps k way b) i shape.Exit shape.Exit way dir there exit in
    record {
      near = b;
      distance = k;
      reached = on;
      some = some;
      few = few;
      there = subst (λ d. IsInside w.r.rect (steps k d b)) same i;
      far = subst (λ d. Says w (Pair b d k)) same far;
      ahead = ap (λ d. steps k d b) same;
    }

-- what comes to a belt or an entrance that is reached: an input begins, or a cell hands to it
pub record FromCell (w : Solved) (c : Cell) : Type 0 where
  pub near : Cell
  pub way : Dir
  pub reached : Reached w near
  pub goes : Says w (Goes near way)
  pub ahead : c ≡ step way near

pub taken_reached : (w : Solved) (c : Cell) (of : Shape) (dir : Dir) → Reached w c → Says w (holds c of dir)
    → ((half : Half) → of ≢ shape.Half half) → of ≢ shape.Exit → Says w (Begins c) ⊎ FromCell w c
taken_reached w x of dir (begun c i s) says no_half no_exit = inl s
taken_reached w x of dir (half c i s) says no_half no_exit =
    let there = half_there w c i s in
    absurd (no_half there.0 (one_shape w c i of (shape.Half there.0) dir there.1 says there.2))
taken_reached w x of dir (handed b way on i goes) says no_half no_exit =
    inr (record { near = b; way = way; reached = on; goes = goes; ahead = refl })
taken_reached w x of dir (under b way k on i some few far) says no_half no_exit =
    let there = exit_there w b (reached_inside w b on) way k some few i far in
    absurd (no_exit (one_shape w (steps k way b) i of shape.Exit dir way says there))
