-- Facts of cells, splitters, inputs and classes that a request has.
use Rattle.std.specs.Prelude.{ℕ, ◌<◌, ◌≤◌, ◌+◌, length, Contains}
use Rattle.std.specs.List.{AllByRecursion}
use Rattle.bt_parts.specs.Cells.{IsInside}
use Rattle.bt_model.specs.Requests.{LayoutRequest}
use Rattle.bt_facts.specs.declared.fact.Fact.{Fact}
use Rattle.bt_facts.specs.declared.fact.Fact.TheVariants as fact
use Rattle.bt_demands.specs.Classes.{classes_of}
use Rattle.bt_demands.specs.Counting.{halves_of}
use Rattle.bt_demands.specs.Rows.{lining}
use Rattle.bt_demands.specs.Stopping.{stopping}
use Rattle.bt_facts.specs.Rules.{Rule}
use Rattle.bt_facts.specs.Spots.{cells_of}
use Rattle.bt_rules.specs.Underground.{most_distance}

-- the request has a splitter with this number
abbrev pub HasSplitter : LayoutRequest → ℕ → Type 0
HasSplitter r s = s < r.net.splitters

-- what the fact speaks of is there
abbrev pub IsWithin : LayoutRequest → Fact → Type 0
IsWithin r (fact.Kind c content) = IsInside r.rect c
IsWithin r (fact.Carries c k) = IsInside r.rect c × Contains (classes_of r) k
IsWithin r (fact.HalfOn c) = IsInside r.rect c
IsWithin r (fact.BeltOn c) = IsInside r.rect c
IsWithin r (fact.Begins c) = IsInside r.rect c
IsWithin r (fact.Starts c i) = IsInside r.rect c × (i < r.net.inputs)
IsWithin r (fact.Stops c o) = IsInside r.rect c × (o < stopping r)
IsWithin r (fact.Lies c l) = IsInside r.rect c × (0 < lining r)
IsWithin r (fact.Pair c dir k) = IsInside r.rect c × ((1 ≤ k) × (k ≤ most_distance r))
IsWithin r (fact.Tunnel c dir) = IsInside r.rect c
IsWithin r (fact.Goes c dir) = IsInside r.rect c
IsWithin r (fact.At s c dir) = HasSplitter r s × IsInside r.rect c
IsWithin r (fact.Column s x) = HasSplitter r s × (x < r.rect.width)
IsWithin r (fact.Row s y) = HasSplitter r s × (y < r.rect.height)
IsWithin r (fact.Points s dir) = HasSplitter r s
IsWithin r (fact.EntersLesser s) = HasSplitter r s
IsWithin r (fact.LeavesLesser s) = HasSplitter r s
IsWithin r (fact.Held spare half) = (spare + halves_of r ≤ length (cells_of r.rect)) × (half < halves_of r)

-- so are all facts of a rule
pub record HasWithin (r : LayoutRequest) (a : Rule) : Type 0 where
  pub given : AllByRecursion (IsWithin r) a.given
  pub one_of : AllByRecursion (IsWithin r) a.one_of
