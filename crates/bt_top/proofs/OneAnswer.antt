-- A command has one answer to the bytes of its input.
use Rattle.std.proofs.Common.{◌≡◌, ◌≢◌, ℕ, List, Option, drop, inl, inr, ap, sym, subst, ◌∙◌, Result, Ok, Err, arith}
use Rattle.bt_text.specs.Answers.{HasOneAnswer}
use Rattle.bt_text.proofs.FirstLines.{IsFirstLine-unique}
use Rattle.bt_net.specs.Network.{Network, IsNetwork}
use Rattle.bt_flow_formula.specs.FlowFormula.{flow_formula}
use Rattle.bt_flow_formula.proofs.Formulas.{is_formula}
use Rattle.std.specs.Global.{Vec}
use Rattle.bt_parts.specs.declared.hand.Priority.{Priority}
use Rattle.bt_cert.specs.Certificates.{IsCertRead}
use Rattle.bt_parts.specs.declared.part.Rect.{Rect}
use Rattle.bt_parts.specs.declared.part.Tier.{Tier}
use Rattle.bt_model.specs.Requests.{LayoutRequest, IsRequest}
use Rattle.bt_place.specs.PlaceFormula.{place_formula}
use Rattle.bt_layout.proofs.Formulas.{place_is_formula}
use Rattle.bt_cert.proofs.OneAnswer.{one_answer}
use Rattle.bt_flow.specs.declared.property.Property.{Property}
use Rattle.bt_flow.specs.States.{Fractions}
use Rattle.bt_flow.specs.StateReading.{IsStateRead}
use Rattle.bt_flow.proofs.OneAnswer.{one_breaking_answer}
use Rattle.bt_flow.proofs.StateTexts.{one_state_read}
use Rattle.bt_print.specs.declared.answer.Answer.{Answer}
use Rattle.bt_print.specs.declared.answer.Answer.TheVariants as answer
use Rattle.bt_print.specs.declared.answer.Brief.{Brief}
use Rattle.bt_print.specs.declared.answer.Brief.TheVariants as brief
use Rattle.bt_words.specs.declared.command.Command.TheVariants.{FlowCheck, Recover, Check, Decide, Make, Layout, CheckLayout, Smallest, FindSmall, FlowFormula, PlaceFormula, Same, CheckSame, Build}
use Rattle.bt_words.specs.declared.command.NetworkFamily.TheVariants.{Butterfly, Chain}
use Rattle.bt_theory.specs.declared.outcome.GaveUp.{GaveUp}
use Rattle.bt_theory.specs.declared.outcome.GaveUp.TheVariants as gave
use Rattle.bt_decide.specs.declared.verdict.Verdict.{Verdict}
use Rattle.bt_decide.specs.declared.verdict.Verdict.TheVariants as verdict
use Rattle.bt_decide.specs.declared.verdict.SameVerdict.{SameVerdict}
use Rattle.bt_decide.specs.declared.verdict.SameVerdict.TheVariants as of_same
use Rattle.bt_grids.specs.declared.outcome.Layout.{Layout as ALayout}
use Rattle.bt_grids.specs.declared.outcome.Layout.TheVariants as layout
use Rattle.bt_grids.specs.declared.outcome.Small.{Small as ASmall}
use Rattle.bt_grids.specs.declared.outcome.Small.TheVariants as small
use Rattle.bt_grids.specs.declared.outcome.Smallest.{Smallest as ASmallest}
use Rattle.bt_grids.specs.declared.outcome.Smallest.TheVariants as smallest
use Rattle.bt_gen.specs.declared.butterflies.TheConstants.{MOST_STAGES}
use Rattle.bt_gen.specs.declared.chains.TheConstants.{MOST_IN_CHAIN}
use Rattle.bt_gen.specs.Butterfly.{butterfly_net}
use Rattle.bt_gen.specs.Chain.{chain_net}
use Rattle.bt_gen.specs.Orders.{IsGenerated}
use Rattle.bt_gen.proofs.Made.{one_made}
use Rattle.bt_designs.specs.Designs.{IsDesign}
use Rattle.bt_top.specs.Certificates.{cert_told, IsYesChecked, IsTextChecked, IsCertificateChecked, IsChecked}
use Rattle.bt_designs.specs.Alone.{IsLoneNet}
use Rattle.bt_top.specs.Answering.{OneRightAnswer}
use Rattle.bt_print.specs.Answers.{status_of}
use Rattle.bt_top.specs.Comparing.{IsCompared, same_told}
use Rattle.bt_top.specs.Deciding.{IsDecided, verdict_told}
use Rattle.bt_top.specs.Finding.{IsDesignRequest, IsFound}
use Rattle.bt_top.specs.Formulas.{IsFlowFormulaFrom, IsPlaceFormulaFrom, place_formula_told}
use Rattle.bt_top.specs.LayingOut.{IsLaidOut, IsLayoutTold}
use Rattle.bt_top.specs.Making.{IsSaidBalanced, IsBalanceDecided, balance_told}
use Rattle.bt_top.specs.NoneCertificates.{IsNoneChecked, IsNoneTextChecked, IsNoneCertificateChecked, IsLayoutChecked}
use Rattle.bt_top.specs.Recovering.{IsRecoveredFrom}
use Rattle.bt_designs.specs.Requested.{IsSidedRequest}
use Rattle.bt_top.specs.Searching.{IsLeastTold, IsSearched}
use Rattle.bt_designs.specs.Requested.{IsFrontRequest, IsLoneRequest}
use Rattle.bt_print.specs.Replies.{Reply, UnlessLarge, design_told, state_told, gen_told}
use Rattle.bt_top.specs.States.{verdict, IsJudged, IsStateJudged, IsStateChecked, IsFlowChecked}
use Rattle.bt_designs.specs.Steps.{InTurn, stopped, went_on}
use Rattle.bt_designs.specs.TwoDesigns.{IsTwoNets}
use Rattle.bt_designs.proofs.Blanks.{one_rest}
use Rattle.bt_designs.proofs.InTurns.{one_in_turn, one_in_turn_of, same_value, same_fault, not_both}
use Rattle.bt_designs.proofs.OneDesign.{one_design, design_network}
use Rattle.bt_designs.proofs.OnePair.{one_two_nets}
use Rattle.bt_designs.proofs.OneRequest.{one_front_request, one_lone_request, one_sided_request, front_request}
use Rattle.bt_top.proofs.AskedOfAny.{one_design_request}
use Rattle.bt_top.proofs.SameCertified.{one_same_certified}
use Rattle.bt_designs.proofs.StandingAlone.{one_alone}

-- ---- flow-check

one_judged : (n : Network) (p : Property) (broken : Brief) (t : Fractions) → HasOneAnswer (IsJudged n p broken t)
one_judged n p broken t a b h k = h.2 ∙ ap (λ told. Ok (answer.Brief (verdict broken told))) (one_breaking_answer n p t h.0 k.0 h.1 k.1) ∙ sym k.2

one_state_judged : (n : Network) (p : Property) (broken : Brief) (text : List ℕ) → HasOneAnswer (IsStateJudged n p broken text)
one_state_judged n p broken text =
    one_in_turn (IsStateRead n p text) state_told (IsJudged n p broken) (one_state_read n p text) (one_judged n p broken)

one_state_checked : (n : Network) (p : Property) (rest : List ℕ) → HasOneAnswer (IsStateChecked n p rest)
one_state_checked n p rest a b h k =
    one_state_judged n p (brief.Breaks p) k.0 a b
    (subst (λ text. IsStateJudged n p (brief.Breaks p) text a) (one_rest rest h.0 k.0 h.1 k.1) h.2) k.2

one_flow_checked : (p : Property) (bytes : List ℕ) → HasOneAnswer (IsFlowChecked p bytes)
one_flow_checked p bytes =
    one_in_turn (IsDesign bytes) design_told _ (one_design bytes) (λ found. one_state_checked found.0 p (drop found.1 bytes))

-- ---- recover

-- two right answers to the bytes of a design alone are equal
pub one_lone_net : (bytes : List ℕ) → HasOneAnswer (IsLoneNet bytes)
one_lone_net bytes = one_alone IsDesign bytes (one_design bytes)

one_recovered : (bytes : List ℕ) → HasOneAnswer (IsRecoveredFrom bytes)
one_recovered bytes = one_in_turn (IsLoneNet bytes) design_told _ (one_lone_net bytes) (λ n a b h k. h ∙ sym k)

-- ---- check

one_yes : (n : Network) (p : Property) → IsNetwork n → (lines : List ℕ) → HasOneAnswer (IsYesChecked n p lines)
one_yes n p net lines =
    one_in_turn (IsCertRead (flow_formula n p) lines) cert_told _ (one_answer (flow_formula n p) (is_formula n p net) lines) (λ done a b h k. h.1 ∙ sym k.1)

one_text_checked : (n : Network) (p : Property) → IsNetwork n → (text : List ℕ) → HasOneAnswer (IsTextChecked n p text)
one_text_checked n p net text a b (inl h) (inl k) =
    one_yes n p net k.0 a b (subst (λ lines. IsYesChecked n p lines a) (IsFirstLine-unique text _ _ h.0 k.0 h.1 k.1).1 h.2) k.2
one_text_checked n p net text a b (inl h) (inr k) = absurd (k.0 h.0 h.1)
one_text_checked n p net text a b (inr h) (inl k) = absurd (h.0 k.0 k.1)
one_text_checked n p net text a b (inr h) (inr k) = one_state_judged n p (brief.No p) text a b h.1 k.1

one_certificate : (n : Network) (p : Property) → IsNetwork n → (rest : List ℕ) → HasOneAnswer (IsCertificateChecked n p rest)
one_certificate n p net rest a b h k =
    one_text_checked n p net k.0 a b (subst (λ text. IsTextChecked n p text a) (one_rest rest h.0 k.0 h.1 k.1) h.2) k.2

one_checked : (p : Property) (bytes : List ℕ) → HasOneAnswer (IsChecked p bytes)
one_checked p bytes =
    one_in_turn_of (IsDesign bytes) design_told _ (one_design bytes)
    (λ found is. one_certificate found.0 p (design_network bytes found is) (drop found.1 bytes))

-- ---- requests without a formula

-- where one thing is answered to a request that has a formula, one is to any
one_unless_large : (IsAnswered : LayoutRequest → Reply → Type 0) (r : LayoutRequest) → HasOneAnswer (IsAnswered r) → HasOneAnswer (UnlessLarge IsAnswered r)
one_unless_large IsAnswered r one a b (inl h) (inl k) = one a b h.1 k.1
one_unless_large IsAnswered r one a b (inl h) (inr k) = absurd (k.0 h.0)
one_unless_large IsAnswered r one a b (inr h) (inl k) = absurd (h.0 k.0)
one_unless_large IsAnswered r one a b (inr h) (inr k) = h.1 ∙ sym k.1

-- ---- check-layout

one_none : (r : LayoutRequest) → IsRequest r → (lines : List ℕ) → HasOneAnswer (IsNoneChecked r lines)
one_none r is lines =
    one_in_turn (IsCertRead (place_formula r) lines) cert_told _ (one_answer (place_formula r) (place_is_formula r is) lines) (λ done a b h k. h.1 ∙ sym k.1)

one_none_text : (r : LayoutRequest) → IsRequest r → (text : List ℕ) → HasOneAnswer (IsNoneTextChecked r text)
one_none_text r is text a b (inl h) (inl k) =
    one_none r is k.0 a b (subst (λ lines. IsNoneChecked r lines a) (IsFirstLine-unique text _ _ h.0 k.0 h.1 k.1).1 h.2) k.2
one_none_text r is text a b (inl h) (inr k) = absurd (k.0 h.0 h.1)
one_none_text r is text a b (inr h) (inl k) = absurd (h.0 k.0 k.1)
one_none_text r is text a b (inr h) (inr k) = h.1 ∙ sym k.1

one_none_certificate : (r : LayoutRequest) → IsRequest r → (rest : List ℕ) → HasOneAnswer (IsNoneCertificateChecked r rest)
one_none_certificate r is rest a b h k =
    one_none_text r is k.0 a b (subst (λ text. IsNoneTextChecked r text a) (one_rest rest h.0 k.0 h.1 k.1) h.2) k.2

one_layout_checked : (rect : Rect) (tier : Option Tier) (bytes : List ℕ) → HasOneAnswer (IsLayoutChecked rect tier bytes)
one_layout_checked rect tier bytes =
    one_in_turn_of (IsFrontRequest rect tier bytes) design_told _ (one_front_request rect tier bytes)
    (λ found is. one_unless_large (λ r. IsNoneCertificateChecked r (drop found.1 bytes)) found.0
    (one_none_certificate found.0 (front_request rect tier bytes found is) (drop found.1 bytes)))

-- ---- formula

one_flow_formula : (p : Property) (bytes : List ℕ) → HasOneAnswer (IsFlowFormulaFrom p bytes)
one_flow_formula p bytes = one_in_turn (IsLoneNet bytes) design_told _ (one_lone_net bytes) (λ n a b h k. h ∙ sym k)

one_place_formula : (rect : Rect) (tier : Option Tier) (bytes : List ℕ) → HasOneAnswer (IsPlaceFormulaFrom rect tier bytes)
one_place_formula rect tier bytes = one_in_turn (IsLoneRequest rect tier bytes) design_told _ (one_lone_request rect tier bytes)
    (λ r. one_unless_large (λ r reply. reply ≡ Ok (place_formula_told r)) r (λ a b h k. h ∙ sym k))

-- ---- what is refused

-- where the first of two steps has one answer, and a refusal of the second is the one answer to what it is of, a refusal
-- is the one answer
refused_alone : {A E : Type 0} (First : Result A E → Type 0) (refused : E → Reply) (Second : A → Reply → Type 0) → HasOneAnswer First
    → ((value : A) (a b : Answer) → status_of b ≡ 3 → Second value (Ok a) → Second value (Ok b) → a ≡ b) → (a b : Answer) → status_of b ≡ 3
    → InTurn First refused Second (Ok a) → InTurn First refused Second (Ok b) → a ≡ b
refused_alone First refused Second one alone a b is (stopped e h i) (stopped f k j) = same_value a b (i ∙ ap refused (same_fault e f (one (Err e) (Err f) h k)) ∙ sym j)
refused_alone First refused Second one alone a b is (went_on v h i) (stopped f k j) = absurd (not_both v f (one (Ok v) (Err f) h k))
refused_alone First refused Second one alone a b is (stopped e h i) (went_on w k j) = absurd (not_both w e (one (Ok w) (Err e) k h))
refused_alone First refused Second one alone a b is (went_on v h i) (went_on w k j) =
    alone v a b is i (subst (λ x. Second x (Ok b)) (sym (same_value v w (one (Ok v) (Ok w) h k))) j)

-- and so it is where no answer of the second is a refusal
refused_only : {A E : Type 0} (First : Result A E → Type 0) (refused : E → Reply) (Second : A → Reply → Type 0) → HasOneAnswer First
    → ((value : A) (c : Answer) → Second value (Ok c) → status_of c ≢ 3) → (a b : Answer) → status_of b ≡ 3
    → InTurn First refused Second (Ok a) → InTurn First refused Second (Ok b) → a ≡ b
refused_only First refused Second one other a b is h k = refused_alone First refused Second one (λ value c d of_d i j. absurd (other value d j of_d)) a b is h k

-- an answer with another status than this one
apart : (c d : Answer) → ◌≡◌ {A = Reply} (Ok c) (Ok d) → status_of d ≢ 3 → status_of c ≢ 3
apart c d e other is = other (sym (ap status_of (same_value c d e)) ∙ is)

gave_up_apart : (cause : GaveUp) → status_of (answer.GaveUp cause) ≢ 3
gave_up_apart (gave.Spent log) is = omega (arith, is)
gave_up_apart (gave.Pivots trace) is = omega (arith, is)
gave_up_apart (gave.Wide wide) is = omega (arith, is)

verdict_apart : (p : Property) (v : Verdict) → status_of (verdict_told p v) ≢ 3
verdict_apart p (verdict.Yes definitions log) is = omega (arith, is)
verdict_apart p (verdict.No state) is = omega (arith, is)
verdict_apart p (verdict.GaveUp definitions cause) is = gave_up_apart cause is

same_apart : (v : SameVerdict) → status_of (same_told v) ≢ 3
same_apart (of_same.Yes definitions log) is = omega (arith, is)
same_apart (of_same.No pair) is = omega (arith, is)
same_apart (of_same.GaveUp definitions cause) is = gave_up_apart cause is

balance_apart : (order : ℕ) (n : Network) (v : Verdict) → status_of (balance_told order n v) ≢ 3
balance_apart order n (verdict.Yes definitions log) is = omega (arith, is)
balance_apart order n (verdict.No state) is = omega (arith, is)
balance_apart order n (verdict.GaveUp definitions cause) is = gave_up_apart cause is

not_found_apart : (c : Answer) → ◌≡◌ {A = Reply} (Ok c) (Ok answer.NotFound) → status_of c ≢ 3
not_found_apart c e = apart c answer.NotFound e (λ is. omega (arith, is))

layout_apart : (r : LayoutRequest) (found : ALayout) (c : Answer) → IsLayoutTold r found (Ok c) → status_of c ≢ 3
layout_apart r (layout.Found parts) c (priorities, lays, again, e) = apart c (answer.LaidOut parts priorities) e (λ is. omega (arith, is))
layout_apart r (layout.Nowhere log) c e = apart c (answer.Nowhere log) e (λ is. omega (arith, is))
layout_apart r (layout.Spent log) c e = apart c (answer.GaveUp (gave.Spent log)) e (λ is. omega (arith, is))

laid_apart : (learnt : ℕ) (r : LayoutRequest) (c : Answer) → IsLaidOut learnt r (Ok c) → status_of c ≢ 3
laid_apart learnt r c (inl (found, is, told)) = layout_apart r found c told
laid_apart learnt r c (inr (none, e)) = not_found_apart c e

least_apart : (first : Option Rect) (found : ASmallest) (priorities : Vec Priority) → status_of (answer.Least first found priorities) ≢ 3
least_apart first (smallest.Found earlier grid parts) priorities is = omega (arith, is)
least_apart first (smallest.Nowhere earlier) priorities is = omega (arith, is)
least_apart first (smallest.Spent earlier grid log) priorities is = omega (arith, is)

least_told_apart : (first : Option Rect) (r : LayoutRequest) (found : ASmallest) (c : Answer) → IsLeastTold first r found (Ok c) → status_of c ≢ 3
least_told_apart first r found c (priorities, are, again, e) = apart c (answer.Least first found priorities) e (least_apart first found priorities)

-- a request without a formula is refused, and no other
least_alone : (first : Option Rect) (learnt : ℕ) (r : LayoutRequest) (a b : Answer) → status_of b ≡ 3
    → UnlessLarge (IsSearched first learnt) r (Ok a) → UnlessLarge (IsSearched first learnt) r (Ok b) → a ≡ b
least_alone first learnt r a b is h (inl (has, (found, right, told))) = absurd (least_told_apart first r found b told is)
least_alone first learnt r a b is (inl h) (inr k) = absurd (k.0 h.0)
least_alone first learnt r a b is (inr h) (inr k) = same_value a b (h.1 ∙ sym k.1)

small_apart : (found : ASmall) (priorities : Vec Priority) → status_of (answer.Small found priorities) ≢ 3
small_apart (small.Found grid parts) priorities is = omega (arith, is)
small_apart (small.Spent steps) priorities is = omega (arith, is)

found_apart : (bytes : List ℕ) (learnt : ℕ) (r : LayoutRequest) (c : Answer) → IsFound bytes learnt r (Ok c) → status_of c ≢ 3
found_apart bytes learnt r c (own, is, inl (found, right, (priorities, are, again, e))) = apart c (answer.Small found priorities) e (small_apart found priorities)
found_apart bytes learnt r c (own, is, inr (beyond, e)) = not_found_apart c e

-- ---- make

one_butterfly : (order : ℕ) → HasOneAnswer (InTurn (IsGenerated MOST_STAGES butterfly_net order) gen_told (IsSaidBalanced order))
one_butterfly order = one_in_turn (IsGenerated MOST_STAGES butterfly_net order) gen_told (IsSaidBalanced order) (one_made MOST_STAGES butterfly_net order) (λ n a b h k. h.1 ∙ sym k.1)

-- ---- all

-- the one right answer is equal to each right answer
pub only_right : OneRightAnswer
only_right (FlowCheck p) bytes a b only h k = same_value a b (one_flow_checked p bytes (Ok a) (Ok b) h k)
only_right Recover bytes a b only h k = same_value a b (one_recovered bytes (Ok a) (Ok b) h k)
only_right (Check p) bytes a b only h k = same_value a b (one_checked p bytes (Ok a) (Ok b) h k)
only_right (Decide p limits) bytes a b only h k =
    refused_only (IsLoneNet bytes) design_told (λ n. IsDecided n p limits) (one_lone_net bytes) (λ n c d. apart c (verdict_told p d.0) d.2 (verdict_apart p d.0)) a b only h k
only_right (Make Butterfly order limits) bytes a b only h k = same_value a b (one_butterfly order (Ok a) (Ok b) h k)
only_right (Make Chain order limits) bytes a b only h k =
    refused_only (IsGenerated MOST_IN_CHAIN chain_net order) gen_told (IsBalanceDecided order limits) (one_made MOST_IN_CHAIN chain_net order)
    (λ n c d. apart c (balance_told order n d.0) d.2 (balance_apart order n d.0)) a b only h k
only_right (Layout rect tier learnt) bytes a b only h k =
    refused_only (IsLoneRequest rect tier bytes) design_told (IsLaidOut learnt) (one_lone_request rect tier bytes) (laid_apart learnt) a b only h k
only_right (CheckLayout rect tier) bytes a b only h k = same_value a b (one_layout_checked rect tier bytes (Ok a) (Ok b) h k)
only_right (Smallest first most tier learnt) bytes a b only h k =
    refused_alone (IsSidedRequest most tier bytes) design_told (UnlessLarge (IsSearched first learnt)) (one_sided_request most tier bytes) (least_alone first learnt) a b only h k
only_right (FindSmall most tier sides learnt) bytes a b only h k =
    refused_only (IsDesignRequest sides most tier bytes) design_told (IsFound bytes learnt) (one_design_request sides most tier bytes) (found_apart bytes learnt) a b only h k
only_right (FlowFormula p) bytes a b only h k = same_value a b (one_flow_formula p bytes (Ok a) (Ok b) h k)
only_right (PlaceFormula rect tier) bytes a b only h k = same_value a b (one_place_formula rect tier bytes (Ok a) (Ok b) h k)
only_right (Same limits) bytes a b only h k =
    refused_only (IsTwoNets bytes) design_told (IsCompared limits) (one_two_nets bytes) (λ nets c d. apart c (same_told d.0) d.2 (same_apart d.0)) a b only h k
only_right (Build wish inputs outputs limits text) bytes a b only h (inl (n, is, e)) = absurd (omega (arith, only, ap status_of (same_value b (answer.Built n text) e)))
only_right (Build wish inputs outputs limits text) bytes a b only h (inr e) = absurd (omega (arith, only, ap status_of (same_value b answer.NotFound e)))
only_right CheckSame bytes a b only h k = same_value a b (one_same_certified bytes (Ok a) (Ok b) h k)
