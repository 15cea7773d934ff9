-- A request with an assignment that is a solution, as what keeps the request's rules.
use Rattle.std.proofs.Common.{◌≡◌, ℕ, ◌+◌, ◌<◌, Bool, false, List, get_or, refl, sym, ◌∙◌, ap, ⊎_elim, arith}
use Rattle.std.proofs.lemmas.Bool.{both_ways, cases_lt}
use Rattle.bt_parts.specs.declared.part.Dir.{Dir}
use Rattle.bt_parts.specs.declared.part.Dir.TheVariants.{North, East, South, West}
use Rattle.bt_parts.specs.Cells.{IsInside}
use Rattle.bt_parts.specs.declared.part.Cell.{Cell}
use Rattle.bt_model.specs.Requests.{LayoutRequest, IsRequest}
use Rattle.bt_facts.specs.declared.fact.Content.{Content}
use Rattle.bt_facts.specs.declared.fact.Content.TheVariants.{Empty, Turned}
use Rattle.bt_facts.specs.declared.fact.Fact.TheVariants.{Kind}
use Rattle.bt_facts.specs.declared.fact.Half.TheVariants.{Lesser, Greater}
use Rattle.bt_facts.specs.declared.fact.Shape.{Shape}
use Rattle.bt_facts.specs.declared.fact.Shape.TheVariants as shape
use Rattle.bt_rules.specs.Contents.{contents}
use Rattle.bt_rules.proofs.kept.CellFacts.{content_of}
use Rattle.bt_rules.proofs.kept.Solved.{KeepsAll, Solved}
use Rattle.bt_cnf.specs.Assignments.{truth_in}
use Rattle.bt_place.proofs.Meeting.{meeting_keeps}
use Rattle.bt_place.specs.Numbering.{shape_number, dir_number, content_number}
use Rattle.bt_place.specs.Solutions.{IsSolution}
use Rattle.bt_place.specs.inner.Told.{Told, told_of, reading_of, IsSolved}

-- a solution keeps the rules
pub solved_by : (r : LayoutRequest) (assignment : List Bool) → IsRequest r → IsSolution r assignment → IsSolved (told_of r assignment)
solved_by r assignment is solution = record {
  is_request = is;
  keeps = meeting_keeps r (truth_in assignment) solution.0 solution.1;
}

pub keeps_of : (t : Told) → IsSolved t → KeepsAll t.request (reading_of t)
unfolding KeepsAll
keeps_of t solved = solved.keeps

abbrev pub solved_of : (t : Told) → IsSolved t → Solved
solved_of t solved = record {
  r = t.request;
  reading = reading_of t;
  is_request = solved.is_request;
  keeps = keeps_of t solved;
}

dir_below : (dir : Dir) → dir_number dir < 4
dir_below North = omega arith
dir_below East = omega arith
dir_below South = omega arith
dir_below West = omega arith

shape_below : (of : Shape) → shape_number of < 5
shape_below shape.Belt = omega arith
shape_below shape.Entrance = omega arith
shape_below shape.Exit = omega arith
shape_below (shape.Half Lesser) = omega arith
shape_below (shape.Half Greater) = omega arith

content_below : (content : Content) → content_number content < 21
content_below Empty = omega arith
content_below (Turned of dir) = omega (arith, shape_below of, dir_below dir)

-- each content is the one with its number
content_found : (content : Content) → get_or contents (content_number content) Empty ≡ content
content_found Empty = refl
content_found (Turned shape.Belt North) = refl
content_found (Turned shape.Belt East) = refl
content_found (Turned shape.Belt South) = refl
content_found (Turned shape.Belt West) = refl
content_found (Turned shape.Entrance North) = refl
content_found (Turned shape.Entrance East) = refl
content_found (Turned shape.Entrance South) = refl
content_found (Turned shape.Entrance West) = refl
content_found (Turned shape.Exit North) = refl
content_found (Turned shape.Exit East) = refl
content_found (Turned shape.Exit South) = refl
content_found (Turned shape.Exit West) = refl
content_found (Turned (shape.Half Lesser) North) = refl
content_found (Turned (shape.Half Lesser) East) = refl
content_found (Turned (shape.Half Lesser) South) = refl
content_found (Turned (shape.Half Lesser) West) = refl
content_found (Turned (shape.Half Greater) North) = refl
content_found (Turned (shape.Half Greater) East) = refl
content_found (Turned (shape.Half Greater) South) = refl
content_found (Turned (shape.Half Greater) West) = refl

one_content_numbered : (a b : Content) → content_number a ≡ content_number b → a ≡ b
one_content_numbered a b e = sym (content_found a) ∙ ap (λ n. get_or contents n Empty) e ∙ content_found b

-- of one more number, too, no content is said
pub none_numbered : (t : Told) (c : Cell) (n : ℕ) (here : Content) → content_number here ≡ n → reading_of t (Kind c here) ≡ false
    → ((content : Content) → content_number content < n → reading_of t (Kind c content) ≡ false)
    → (content : Content) → content_number content < n + 1 → reading_of t (Kind c content) ≡ false
none_numbered t c n here is not_here before content lt =
    ⊎_elim (λ below. before content below)
    (λ above. let same : content ≡ here = one_content_numbered content here (let e = is in omega arith) in
    ap (λ x. reading_of t (Kind c x)) same ∙ not_here)
    (cases_lt (content_number content) n)

-- one of the contents is said
pub some_content : (t : Told) → IsSolved t → (c : Cell) → IsInside t.request.rect c
    → ((content : Content) → content_number content < 21 → reading_of t (Kind c content) ≡ false) → ⊥
some_content t solved c inside none =
    let found = content_of (solved_of t solved) c inside in
    both_ways (reading_of t (Kind c found.0)) (none found.0 (content_below found.0)) found.1
