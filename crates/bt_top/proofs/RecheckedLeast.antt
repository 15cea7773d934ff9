-- What `check-layout` answers to what `smallest` wrote.
use Rattle.std.proofs.Common.{◌≡◌, ℕ, List, [], ◌∷◌, ◌++◌, drop, Ok, refl, ap, sym, ◌∙◌, subst, inl, inr, arith}
use Rattle.std.specs.Prelude.{codes}
use Rattle.std.specs.List.{All}
use Rattle.std.specs.declared.option.Option.{Option}
use Rattle.std.proofs.lemmas.List.{append_assoc, append-nil}
use Rattle.std.proofs.lemmas.List.Elements.{All-nil, All-cons, All-head, All-tail}
use Rattle.std.specs.Global.{Vec}
use Rattle.bt_parts.specs.declared.hand.Priority.{Priority}
use Rattle.bt_net.specs.declared.network.Admitted.TheVariants.{Sides}
use Rattle.bt_parts.specs.declared.part.Rect.{Rect}
use Rattle.bt_parts.specs.declared.part.Tier.{Tier}
use Rattle.bt_model.specs.Requests.{LayoutRequest, IsRequest}
use Rattle.bt_place.specs.PlaceFormula.{HasFormula}
use Rattle.bt_grids.specs.declared.outcome.RuledOut.{RuledOut}
use Rattle.bt_grids.specs.declared.outcome.Smallest.{Smallest}
use Rattle.bt_grids.specs.declared.outcome.Smallest.TheVariants.{Found, Nowhere, Spent}
use Rattle.bt_grids.specs.Grids.{IsWithin}
use Rattle.bt_grids.specs.Asked.{NamesNoCells, request_on}
use Rattle.bt_layout.specs.Smallest.{IsRuledOut, IsSmallest, grids_of}
use Rattle.bt_grids.specs.SmallestText.{nowhere_text, earlier_text, from_line, grid_line, spent_on_text}
use Rattle.bt_layout.proofs.Passing.{asked_on}
use Rattle.bt_entities.specs.Written.{blueprint_text}
use Rattle.bt_print.specs.declared.answer.Answer.TheVariants as answer
use Rattle.bt_designs.specs.Alone.{IsAlone}
use Rattle.bt_print.specs.Answers.{text_of}
use Rattle.bt_designs.specs.Designs.{IsJsonText}
use Rattle.bt_top.specs.RecheckingLeast.{certified_in, IsAccepted, BeginsWithGrids, LeastIsChecked}
use Rattle.bt_designs.specs.Refusals.{net_told, request_told}
use Rattle.bt_designs.specs.Requested.{PinnedNet, asked_for, IsPinned, IsPinnedText, IsRequestFor}
use Rattle.bt_designs.specs.Requested.{IsSidedRequest}
use Rattle.bt_designs.specs.Steps.{stopped, went_on}
use Rattle.bt_designs.proofs.BareReadings.{wider_is_read}
use Rattle.bt_top.proofs.AskedOfAny.{sided_request}
use Rattle.bt_designs.proofs.Followed.{is_followed, stands_alone}
use Rattle.bt_designs.proofs.Followed.{other_than}
use Rattle.bt_top.proofs.Printed.{no_refusal}
use Rattle.bt_designs.proofs.InTurns.{same_value, not_both}
use Rattle.bt_designs.proofs.LongerDesigns.{other_text_stays, net_first}
use Rattle.bt_designs.proofs.LongerRequests.{pinned_within, pinned_stays}
use Rattle.bt_designs.specs.declared.fault.DesignFault.TheVariants as design
use Rattle.bt_designs.specs.declared.refusal.Refusal.TheVariants as refusal
use Rattle.bt_top.proofs.LesserGrids.{formula_on}
use Rattle.bt_top.proofs.RecheckedLayouts.{certificate_follows}

-- a network text behind whose edges sides alone stand is read alike where pins and blocks may stand too
text_pinned : (bytes : List ℕ) (n : PinnedNet) (used : ℕ) → IsPinnedText Sides bytes (Ok (n, used)) → IsPinned bytes (Ok (n, used))
text_pinned bytes n used (stopped fault h e) = absurd (not_both (n, used) (net_told fault) e)
text_pinned bytes n used (went_on read h e) =
    let other = net_first bytes (drop read.used bytes) read.net (h.begins.edge_lines ++ (h.begins.priority_lines ++ (h.begins.demand_lines ++ (h.begins.block_lines ++ codes "end" ∷ [])))) h.begins.begins in
    inr (subst (λ b. IsJsonText b → ⊥) (append-nil bytes) (other_text_stays bytes [] other), went_on read (wider_is_read bytes read h) e)

same_found : (first other_first : Option Rect) (found other : Smallest) (priorities others : Vec Priority) → answer.Least first found priorities ≡ answer.Least other_first other others → found ≡ other
same_found first other_first found other priorities others e = cc

module _ (first : Option Rect) (most : Rect) (tier : Option Tier) (learnt : ℕ) (bytes : List ℕ) (n : PinnedNet) (whole : IsAlone (IsPinnedText Sides) bytes (Ok n))
    (asked : IsRequest (asked_for most tier n)) (none : NamesNoCells (asked_for most tier n)) (has : HasFormula (asked_for most tier n)) where
  abbrev asks : LayoutRequest
  asks = asked_for most tier n

  -- the certificate of a grid follows the network text
  one_accepted : (one : RuledOut) → IsRuledOut asks learnt one → IsWithin most one.grid → IsAccepted tier bytes one
  one_accepted one ruled within short =
      let stands = stands_alone (IsPinnedText Sides) bytes n whole in
      let front = text_pinned bytes n stands.used stands.front in
      let on = is_followed IsPinned bytes (nowhere_text one.log.steps) n (λ some. other_than 110 (λ x. omega (arith, x)) (λ x. omega (arith, x)) (λ x. omega (arith, x)) (λ x. omega (arith, x)))
      stands.used front (pinned_within bytes n stands.used front) stands.blanks (pinned_stays bytes n stands.used front) in
      let made : IsRequestFor one.grid tier n (Ok (request_on asks one.grid)) = went_on (request_on asks one.grid) (refl, asked_on asks one.grid asked none within) refl in
      certificate_follows one.grid tier learnt bytes one.log short n (request_on asks one.grid) on made (formula_on asks one.grid has within, ruled.none, ruled.refuted, ruled.few, ruled.tight)

  all_accepted : (ones : List RuledOut) (later : List Rect) → All (IsRuledOut asks learnt) ones → All (IsWithin most) (grids_of ones ++ later) → All (IsAccepted tier bytes) ones
  all_accepted [] later ruled within = All-nil (IsAccepted tier bytes)
  all_accepted (one ∷ ones) later ruled within =
      All-cons (IsAccepted tier bytes) one ones
      (one_accepted one (All-head (IsRuledOut asks learnt) one ones ruled) (All-head (IsWithin most) one.grid (grids_of ones ++ later) within))
      (all_accepted ones later (All-tail (IsRuledOut asks learnt) one ones ruled) (All-tail (IsWithin most) one.grid (grids_of ones ++ later) within))

  found_accepted : (found : Smallest) → IsSmallest first asks learnt found → All (IsAccepted tier bytes) (certified_in found)
  found_accepted (Found earlier grid parts) is = all_accepted earlier.items (grid ∷ is.0.later) is.0.ruled_out is.0.in_order.within
  found_accepted (Nowhere earlier) is = all_accepted earlier.items [] is.1 (subst (All (IsWithin most)) (sym (append-nil (grids_of earlier.items))) is.0.within)
  found_accepted (Spent earlier grid log) is = All-nil (IsAccepted tier bytes)

-- the text begins with their lines and certificates
begins_with : (first : Option Rect) (found : Smallest) (priorities : Vec Priority) → BeginsWithGrids first (text_of (answer.Least first found priorities)) (certified_in found)
begins_with first (Found earlier grid parts) priorities = (
  grid_line grid ++ blueprint_text parts.items priorities.items,
  ap (λ text. from_line first ++ text) (append_assoc (earlier_text earlier.items) (grid_line grid) (blueprint_text parts.items priorities.items))
      ∙ sym (append_assoc (from_line first) (earlier_text earlier.items) (grid_line grid ++ blueprint_text parts.items priorities.items)),
)
begins_with first (Nowhere earlier) priorities = ([], sym (append-nil (from_line first ++ earlier_text earlier.items)))
begins_with first (Spent earlier grid log) priorities = (spent_on_text grid log.steps, ap (λ front. front ++ spent_on_text grid log.steps) (sym (append-nil (from_line first))))

-- what is searched for is the network of the text, with its sides
searched : (first : Option Rect) (most : Rect) (tier : Option Tier) (learnt : ℕ) (bytes : List ℕ) (found : Smallest) (r : LayoutRequest) → IsSidedRequest most tier bytes (Ok r) → NamesNoCells r → HasFormula r → IsSmallest first r learnt found
    → All (IsAccepted tier bytes) (certified_in found)
searched first most tier learnt bytes found r (stopped fault h e) none has is = absurd (not_both r fault e)
searched first most tier learnt bytes found r (went_on n whole (stopped fault h e)) none has is = absurd (not_both r (request_told fault) e)
searched first most tier learnt bytes found r (went_on n whole (went_on made h e)) none has is =
    let same : r ≡ asked_for most tier n = same_value r made e ∙ h.0 in
    found_accepted first most tier learnt bytes n whole (subst IsRequest h.0 h.1) (subst NamesNoCells same none) (subst HasFormula same has) found
    (subst (λ (x : LayoutRequest). IsSmallest first x learnt found) same is)

-- a network text and what is written of its least grid
pub least_is_checked : LeastIsChecked
least_is_checked first most tier learnt bytes found priorities (stopped fault h e) = absurd (no_refusal (answer.Least first found priorities) fault (λ r same. cc) e)
least_is_checked first most tier learnt bytes found priorities (went_on r asked (inr (none, e))) =
    absurd (no_refusal (answer.Least first found priorities) (design.Refused refusal.TooLarge) (λ r same. cc) e)
least_is_checked first most tier learnt bytes found priorities (went_on r asked (inl (has, (other, is, (others, are, again, e))))) =
    let same = same_found first first found other priorities others (same_value (answer.Least first found priorities) (answer.Least first other others) e) in (
      begins_with first found priorities,
      searched first most tier learnt bytes found r asked (sided_request most tier bytes r asked).cells has (subst (IsSmallest first r learnt) (sym same) is),
    )
