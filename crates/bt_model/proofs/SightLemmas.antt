-- Who looks at a cell, and from where.
use Rattle.std.proofs.Common.{◌≡◌, ◌≢◌, ◌⊎◌, ◌↔◌, ℕ, List, Option, Some, None, Bool, IsTrue, refl, sym, ◌∙◌, ap, subst, inl, inr, ⊎_elim}
use Rattle.std.specs.Option.{MatchOption, is_some}
use Rattle.std.proofs.lemmas.Bool.{false≢true}
use Rattle.bt_parts.specs.declared.part.Cell.{Cell}
use Rattle.bt_parts.specs.declared.part.Dir.{Dir}
use Rattle.bt_parts.specs.declared.part.Dir.TheVariants.{North, East, South, West}
use Rattle.bt_parts.specs.declared.part.Kind.TheVariants.{Entrance, Splitter}
use Rattle.bt_parts.specs.declared.part.Part.{Part}
use Rattle.bt_parts.specs.declared.part.Side.{Side}
use Rattle.bt_parts.specs.declared.part.Side.TheVariants.{Behind, Across, Ahead}
use Rattle.bt_parts.specs.Cells.{Covers, step, steps, opposite}
use Rattle.bt_parts.specs.Handing.{ComesFrom}
use Rattle.bt_parts.specs.Layouts.{HasPart, IsAt, IsWellPlaced}
use Rattle.bt_parts.proofs.Steps.{near_end, opposite-opposite}
use Rattle.bt_model.specs.Handing.{LooksFrom}
use Rattle.bt_parts.proofs.Places.{same_part, own_cell, one_there, covers_at}
use Rattle.bt_model.specs.inner.Sight.{left, LooksToward}

pub looker_found : (parts : List Part) (cell there : Cell) (dir from : Dir) (p : ℕ) (part : Part) → from ≡ opposite dir → there ≡ steps 1 from cell
    → HasPart parts p part → IsAt parts p there → ((part.kind ≢ Entrance) × (part.dir ≡ dir)) → LooksToward parts cell dir p
looker_found parts cell there dir from p part back e is_p at looks = record {
  giver = record {
    part = part;
    is_i = is_p;
    covers = subst (λ c. Covers part c) (e ∙ ap (λ d. steps 1 d cell) back) (covers_at parts p part there is_p at);
  };
  no_entrance = looks.0;
  along = looks.1;
}

pub looker_at : (parts : List Part) (cell there : Cell) (dir from : Dir) (p : ℕ) → from ≡ opposite dir → there ≡ steps 1 from cell
    → LooksToward parts cell dir p → IsAt parts p there
looker_at parts cell there dir from p back e toward = subst (λ c. IsAt parts p c) (sym (e ∙ ap (λ d. steps 1 d cell) back)) toward.giver

pub looker_missed : (parts : List Part) (cell there : Cell) (dir from : Dir) (p : ℕ) (part : Part) → from ≡ opposite dir → there ≡ steps 1 from cell
    → HasPart parts p part → ((q : ℕ) → IsAt parts q there → p ≡ q) → ((part.kind ≢ Entrance) × (part.dir ≡ dir) → ⊥)
    → (q : ℕ) → LooksToward parts cell dir q → ⊥
looker_missed parts cell there dir from p part back e is_p alone none q toward =
    let same : q ≡ p = sym (alone q (looker_at parts cell there dir from q back e toward)) in
    let on : LooksToward parts cell dir p = subst (λ k. LooksToward parts cell dir k) same toward in
    let whole = same_part parts p on.giver.part part on.giver.is_i is_p in
    none (subst (λ g. g.kind ≢ Entrance) whole on.no_entrance, subst (λ g. g.dir ≡ dir) whole on.along)

-- a test of whether there is something tells whether there is one of its kind
pub some_tells : (P : ℕ → Type 0) (o : Option ℕ) (b : Bool) → b ≡ is_some o → MatchOption o ((p : ℕ) → P p → ⊥) P → IsTrue b ↔ ((p : ℕ) × P p)
some_tells P None b e none = (λ t. absurd (false≢true (sym e ∙ t)), λ found. absurd (none found.0 found.1))
some_tells P (Some p) b e some = (λ t. (p, some), λ found. e)

-- who looks at a part of one cell is in that direction from it
pub toward : (parts : List Part) (p q : ℕ) (half : Cell) (side : Side) (part : Part) → HasPart parts q part → part.kind ≢ Splitter
    → (look : LooksFrom parts p half q side) → LooksToward parts part.cell look.giver.part.dir p
toward parts p q half side part is_q link look =
    let faced : step look.giver.part.dir half ≡ part.cell =
    own_cell part (step look.giver.part.dir half) link (covers_at parts q part (step look.giver.part.dir half) is_q look.taker) in
    record {
      giver = subst (λ c. IsAt parts p c) (near_end look.giver.part.dir 1 half part.cell (sym faced)) look.giver;
      no_entrance = look.no_entrance;
      along = refl;
    }

-- and who is there looks at it
pub from_toward : (parts : List Part) (p q : ℕ) (dir : Dir) (part : Part) (side : Side) → HasPart parts q part → ComesFrom dir part.dir side
    → LooksToward parts part.cell dir p → LooksFrom parts p (step (opposite dir) part.cell) q side
from_toward parts p q dir part side is_q comes there = record {
  giver = there.giver;
  no_entrance = there.no_entrance;
  taker = record {
    part = part;
    is_i = is_q;
    covers = inl (sym (near_end (opposite dir) 1 part.cell (step (opposite dir) part.cell) refl
        ∙ ap (λ d. step d (step (opposite dir) part.cell)) (opposite-opposite dir ∙ sym there.along)));
  };
  comes = subst (λ d. ComesFrom d part.dir side) (sym there.along) comes;
}

-- one part looks at a cell in a direction
pub one_toward : (parts : List Part) → IsWellPlaced parts → (cell : Cell) (dir : Dir) (p q : ℕ) → LooksToward parts cell dir p → LooksToward parts cell dir q → p ≡ q
one_toward parts placed cell dir p q one other = one_there parts placed p q (step (opposite dir) cell) one.giver other.giver

-- a part looks in one direction
pub one_dir : (parts : List Part) (cell : Cell) (d e : Dir) (p : ℕ) → LooksToward parts cell d p → LooksToward parts cell e p → d ≡ e
one_dir parts cell d e p one other =
    sym one.along ∙ ap (λ g. g.dir) (same_part parts p one.giver.part other.giver.part one.giver.is_i other.giver.is_i) ∙ other.along

-- the four directions, as one of them has them
pub dir_cases : (dir d : Dir) → (d ≡ dir) ⊎ ((d ≡ left dir) ⊎ ((d ≡ opposite (left dir)) ⊎ (d ≡ opposite dir)))
dir_cases North North = inl refl
dir_cases North East = inr (inr (inl refl))
dir_cases North South = inr (inr (inr refl))
dir_cases North West = inr (inl refl)
dir_cases East North = inr (inl refl)
dir_cases East East = inl refl
dir_cases East South = inr (inr (inl refl))
dir_cases East West = inr (inr (inr refl))
dir_cases South North = inr (inr (inr refl))
dir_cases South East = inr (inl refl)
dir_cases South South = inl refl
dir_cases South West = inr (inr (inl refl))
dir_cases West North = inr (inr (inl refl))
dir_cases West East = inr (inr (inr refl))
dir_cases West South = inr (inl refl)
dir_cases West West = inl refl

-- they differ
pub not_opposite : (dir : Dir) → dir ≢ opposite dir
not_opposite North = λ e. cc
not_opposite East = λ e. cc
not_opposite South = λ e. cc
not_opposite West = λ e. cc

pub not_left : (dir : Dir) → left dir ≢ dir
not_left North = λ e. cc
not_left East = λ e. cc
not_left South = λ e. cc
not_left West = λ e. cc

pub not_right : (dir : Dir) → opposite (left dir) ≢ dir
not_right North = λ e. cc
not_right East = λ e. cc
not_right South = λ e. cc
not_right West = λ e. cc

pub left_not_opposite : (dir : Dir) → left dir ≢ opposite dir
left_not_opposite North = λ e. cc
left_not_opposite East = λ e. cc
left_not_opposite South = λ e. cc
left_not_opposite West = λ e. cc

pub right_not_opposite : (dir : Dir) → opposite (left dir) ≢ opposite dir
right_not_opposite North = λ e. cc
right_not_opposite East = λ e. cc
right_not_opposite South = λ e. cc
right_not_opposite West = λ e. cc

-- from where one direction comes upon another
pub comes : (g t : Dir) → (side : Side) × ComesFrom g t side
comes g t =
    ⊎_elim (λ e. (Behind, e)) (λ other. ⊎_elim (λ e. (Across, aside_left g t e)) (λ more. ⊎_elim (λ e. (Across, aside_right g t e)) (λ e. (Ahead, e)) more) other)
    (dir_cases t g)
  where
    aside_left : (g t : Dir) → g ≡ left t → (g ≢ t) × (g ≢ opposite t)
    aside_left g t e = (λ same. not_left t (sym e ∙ same), λ same. left_not_opposite t (sym e ∙ same))

    aside_right : (g t : Dir) → g ≡ opposite (left t) → (g ≢ t) × (g ≢ opposite t)
    aside_right g t e = (λ same. not_right t (sym e ∙ same), λ same. right_not_opposite t (sym e ∙ same))

-- it comes from one side
pub one_side : (g t : Dir) (s r : Side) → ComesFrom g t s → ComesFrom g t r → s ≡ r
one_side g t Behind Behind h k = refl
one_side g t Behind Across h k = absurd (k.0 h)
one_side g t Behind Ahead h k = absurd (not_opposite t (sym h ∙ k))
one_side g t Across Behind h k = absurd (h.0 k)
one_side g t Across Across h k = refl
one_side g t Across Ahead h k = absurd (h.1 k)
one_side g t Ahead Behind h k = absurd (not_opposite t (sym k ∙ h))
one_side g t Ahead Across h k = absurd (k.1 h)
one_side g t Ahead Ahead h k = refl
