-- What `smallest` asks for: bytes have one request, or one refusal, and it may be asked of any grid.
use Rattle.std.proofs.Common.{◌≡◌, ℕ, Bool, true, false, List, [], Option, Ok, inl, inr, refl, ap, sym, subst, ◌∙◌, arith}
use Rattle.std.specs.Prelude.{◌↔◌, IfSome, IsTrue, None, Some, unwrap_or}
use Rattle.std.proofs.lemmas.Bool.{false≢true}
use Rattle.bt_place.specs.PlaceFormula.{HasFormula}
use Rattle.bt_text.specs.Answers.{HasOneAnswer}
use Rattle.bt_parts.specs.declared.part.Part.{Part}
use Rattle.bt_parts.specs.declared.part.Rect.{Rect}
use Rattle.bt_parts.specs.declared.part.Tier.{Tier}
use Rattle.std.specs.List.{All as Each}
use Rattle.std.proofs.lemmas.List.Elements.{All-nil}
use Rattle.bt_net.specs.declared.network.Admitted.TheVariants.{Sides}
use Rattle.bt_model.specs.Requests.{LayoutRequest, IsGrid, IsRequest}
use Rattle.bt_grids.specs.Asked.{NamesNoCell, NamesNoCells}
use Rattle.bt_words.specs.declared.command.AskedSides.{AskedSides}
use Rattle.bt_words.specs.declared.command.AskedSides.TheVariants.{Any, Kept}
use Rattle.bt_designs.specs.Alone.{IsAlone}
use Rattle.bt_words.specs.Commands.{usual_grid}
use Rattle.bt_print.specs.Replies.{Reply}
use Rattle.bt_top.specs.Finding.{IsDesignRequest, IsDrawnRequest, IsFound, greatest_grid}
use Rattle.bt_top.specs.inner.Asking.{IsDrawnAs, IsFoundBeside}
use Rattle.bt_designs.specs.Kept.{IsKeptRequest}
use Rattle.bt_designs.proofs.OneRequest.{one_lone_request, one_kept_request, one_sided_request}
use Rattle.bt_designs.specs.Designs.{IsJsonText}
use Rattle.bt_designs.specs.Refusals.{layout_told, net_told, request_told}
use Rattle.bt_designs.specs.Requested.{PinnedNet, asked_for, pinned_laid, pinned_net, IsPinnedText, IsPinned, IsLoneRequest, IsSidedRequest}
use Rattle.bt_designs.specs.Steps.{stopped, went_on}
use Rattle.bt_designs.proofs.InTurns.{same_value, not_both}
use Rattle.bt_top.proofs.SidesRead.{sides_read}
use Rattle.bt_top.proofs.OwnSides.{own_sides_name_no_cells}

-- what the test says of a request tells whether it has a formula
pub has_formula_then : (r : LayoutRequest) (has : Bool) → IsTrue has ↔ HasFormula r → has ≡ true → HasFormula r
has_formula_then r has is e = is.0 e

pub has_none_else : (r : LayoutRequest) (has : Bool) → IsTrue has ↔ HasFormula r → has ≡ false → HasFormula r → ⊥
has_none_else r has is e there = false≢true (sym e ∙ is.1 there)

-- a grid that is given, or else another one, is a grid
pub given_grid : (most : Option Rect) (other : Rect) → IfSome most IsGrid → IsGrid other → IsGrid (unwrap_or most other)
given_grid None other is at_least = at_least
given_grid (Some grid) other is at_least = is

pub greatest_is_grid : IsGrid greatest_grid
greatest_is_grid = record { some_width = omega arith; few_across = omega arith; some_height = omega arith; few_down = omega arith }

-- two right answers to the bytes of a request for a blueprint alone are equal
one_drawn_request : (sides : AskedSides) (rect : Rect) (tier : Option Tier) (bytes : List ℕ) → HasOneAnswer (IsDrawnRequest sides rect tier bytes)
one_drawn_request Any rect tier bytes = one_lone_request rect tier bytes
one_drawn_request Kept rect tier bytes = one_kept_request rect tier bytes

-- and of a request for a design alone
pub one_design_request : (sides : AskedSides) (most : Option Rect) (tier : Option Tier) (bytes : List ℕ) → HasOneAnswer (IsDesignRequest sides most tier bytes)
one_design_request sides most tier bytes a b (inl h) (inl k) = one_drawn_request sides (unwrap_or most greatest_grid) tier bytes a b h.1 k.1
one_design_request sides most tier bytes a b (inl h) (inr k) = absurd (k.0 h.0)
one_design_request sides most tier bytes a b (inr h) (inl k) = absurd (h.0 k.0)
one_design_request sides most tier bytes a b (inr h) (inr k) = one_sided_request (unwrap_or most usual_grid) tier bytes a b h.1 k.1

-- a network whose request may be asked of any grid: it names no cells
record IsSided (n : PinnedNet) : Type 0 where
  cells : Each NamesNoCell n.demands
  blocks : n.blocks ≡ []

sided_front : (bytes : List ℕ) (found : PinnedNet × ℕ) → IsPinnedText Sides bytes (Ok found) → IsSided found.0
sided_front bytes found (stopped fault h e) = absurd (not_both found (net_told fault) e)
sided_front bytes found (went_on read h e) =
    let none = sides_read bytes read h in
    subst IsSided (ap (λ (pair : PinnedNet × ℕ). pair.0) (sym (same_value found (pinned_net read.net read.demands read.blocks, read.used) e)))
    (record { cells = none.0; blocks = none.1 })

sided_text : (bytes : List ℕ) (n : PinnedNet) → IsAlone (IsPinnedText Sides) bytes (Ok n) → IsSided n
sided_text bytes n (stopped fault h e) = absurd (not_both n fault e)
sided_text bytes n (went_on found h (text, skips, inl ended)) = subst IsSided (sym (same_value n found.0 ended.1)) (sided_front bytes found h)
sided_text bytes n (went_on found h (text, skips, inr (more, r, at, e))) = absurd (not_both n _ e)

-- what a network text is found to ask for
pub record IsForAll (most : Rect) (r : LayoutRequest) : Type 0 where
  pub request : IsRequest r
  pub rect : r.rect ≡ most
  pub cells : NamesNoCells r

for_all : (most : Rect) (tier : Option Tier) (n : PinnedNet) → IsSided n → IsRequest (asked_for most tier n) → IsForAll most (asked_for most tier n)
for_all most tier n is asked = record { request = asked; rect = refl; cells = record { demands = is.cells; blocks = is.blocks } }

pub sided_request : (most : Rect) (tier : Option Tier) (bytes : List ℕ) (r : LayoutRequest) → IsSidedRequest most tier bytes (Ok r) → IsForAll most r
sided_request most tier bytes r (stopped fault h e) = absurd (not_both r fault e)
sided_request most tier bytes r (went_on n h (stopped fault k e)) = absurd (not_both r (request_told fault) e)
sided_request most tier bytes r (went_on n h (went_on made k e)) =
    subst (IsForAll most) (sym (same_value r made e ∙ k.0)) (for_all most tier n (sided_text bytes n h) (subst IsRequest k.0 k.1))

-- JSON text names neither pins, sides nor blocks
front_drawn : (bytes : List ℕ) (found : PinnedNet × ℕ) → IsJsonText bytes → IsPinned bytes (Ok found) → IsSided found.0
front_drawn bytes found json (inl (is, stopped fault h e)) = absurd (not_both found fault e)
front_drawn bytes found json (inl (is, went_on read h e)) =
    subst IsSided (ap (λ (pair : PinnedNet × ℕ). pair.0) (sym (same_value found (pinned_laid read.0, read.1) e)))
    (record { cells = All-nil NamesNoCell; blocks = refl })
front_drawn bytes found json (inr h) = absurd (h.0 json)

alone_drawn : (bytes : List ℕ) (n : PinnedNet) → IsJsonText bytes → IsAlone IsPinned bytes (Ok n) → IsSided n
alone_drawn bytes n json (stopped fault h e) = absurd (not_both n fault e)
alone_drawn bytes n json (went_on found h (text, skips, inl ended)) = subst IsSided (sym (same_value n found.0 ended.1)) (front_drawn bytes found json h)
alone_drawn bytes n json (went_on found h (text, skips, inr (more, r, at, e))) = absurd (not_both n _ e)

drawn : (most : Rect) (tier : Option Tier) (bytes : List ℕ) (r : LayoutRequest) → IsJsonText bytes → IsLoneRequest most tier bytes (Ok r) → IsForAll most r
drawn most tier bytes r json (stopped fault h e) = absurd (not_both r fault e)
drawn most tier bytes r json (went_on n h (stopped fault k e)) = absurd (not_both r (request_told fault) e)
drawn most tier bytes r json (went_on n h (went_on made k e)) =
    subst (IsForAll most) (sym (same_value r made e ∙ k.0)) (for_all most tier n (alone_drawn bytes n json h) (subst IsRequest k.0 k.1))

-- so what a design is found to ask for may be asked of any grid
kept : (most : Rect) (tier : Option Tier) (bytes : List ℕ) (r : LayoutRequest) → IsKeptRequest most tier bytes (Ok r) → IsForAll most r
kept most tier bytes r (stopped fault h e) = absurd (not_both r fault e)
kept most tier bytes r (went_on laid h (parts, drawn, stopped fault k e)) = absurd (not_both r (layout_told fault) e)
kept most tier bytes r (went_on laid h (parts, drawn, went_on stays k (stopped fault m e))) = absurd (not_both r (request_told fault) e)
kept most tier bytes r (went_on laid h (parts, drawn, went_on stays k (went_on made m e))) =
    subst (IsForAll most) (sym (same_value r made e ∙ m.0))
    (for_all most tier (record (pinned_laid laid) { demands = stays }) (record { cells = own_sides_name_no_cells parts stays k; blocks = refl }) (subst IsRequest m.0 m.1))

of_own : (most : Rect) (r : LayoutRequest) → IsForAll most r → IsForAll r.rect r
of_own most r is = record { request = is.request; rect = refl; cells = is.cells }

pub design_request : (sides : AskedSides) (most : Option Rect) (tier : Option Tier) (bytes : List ℕ) (r : LayoutRequest) → IsDesignRequest sides most tier bytes (Ok r) → IsForAll r.rect r
design_request Any most tier bytes r (inl h) = of_own (unwrap_or most greatest_grid) r (drawn (unwrap_or most greatest_grid) tier bytes r h.0 h.1)
design_request Kept most tier bytes r (inl h) = of_own (unwrap_or most greatest_grid) r (kept (unwrap_or most greatest_grid) tier bytes r h.1)
design_request sides most tier bytes r (inr h) = of_own (unwrap_or most usual_grid) r (sided_request (unwrap_or most usual_grid) tier bytes r h.1)

-- what is answered beside the parts of a design is what is answered to the bytes of the design
pub found_beside : (bytes : List ℕ) (own : Option (List Part)) (learnt : ℕ) (r : LayoutRequest) → IsDrawnAs bytes own → (reply : Reply) → IsFoundBeside own learnt r reply → IsFound bytes learnt r reply
found_beside bytes None learnt r drawn reply h = (None, drawn, h)
found_beside bytes (Some parts) learnt r drawn reply (cells, spanned, h) = (Some cells, (parts, drawn, spanned), h)
