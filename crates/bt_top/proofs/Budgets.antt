-- Budgets of steps and of turns that no search uses up.
use Rattle.std.proofs.Common.{◌≡◌, ◌≢◌, ◌≤◌, ◌⊎◌, ℕ, Bool, true, false, List, Option, Result, Ok, Err, inl, inr, ap, sym, subst, ◌∙◌, arith}
use Rattle.bt_io.specs.Passages.{Passage}
use Rattle.bt_io.specs.declared.fault.WriteFault.{WriteFault}
use Rattle.bt_cnf.specs.Formulas.{FormulaParts}
use Rattle.bt_log.specs.Logs.{Step}
use Rattle.bt_parts.specs.declared.part.Rect.{Rect}
use Rattle.bt_parts.specs.declared.part.Tier.{Tier}
use Rattle.bt_net.specs.Network.{Network}
use Rattle.bt_flow.specs.declared.property.Property.{Property}
use Rattle.bt_flow.specs.declared.property.Property.TheVariants.{Balanced}
use Rattle.std.specs.Global.{Vec}
use Rattle.bt_parts.specs.declared.hand.Priority.{Priority}
use Rattle.bt_extend.specs.Extending.{extended}
use Rattle.bt_extend.specs.declared.definition.Definition.{Definition}
use Rattle.bt_flow_formula.specs.FlowFormula.{flow_formula}
use Rattle.bt_same.specs.SameFormula.{same_formula}
use Rattle.bt_simplex.specs.declared.answers.PivotTrace.{PivotTrace}
use Rattle.bt_theory.specs.Outcomes.{IsUsedUp}
use Rattle.bt_theory.specs.PivotTraces.{PivotsOn}
use Rattle.bt_theory.specs.declared.outcome.GaveUp.{GaveUp}
use Rattle.bt_theory.specs.declared.outcome.GaveUp.TheVariants as gave
use Rattle.bt_cnf.specs.declared.limits.Limits.{Limits}
use Rattle.bt_gen.specs.Chain.{chain_net}
use Rattle.bt_gen.specs.declared.fault.GenFault.{GenFault}
use Rattle.bt_gen.specs.declared.fault.GenFault.TheVariants as gen
use Rattle.bt_decide.specs.declared.verdict.Verdict.{Verdict}
use Rattle.bt_decide.specs.declared.verdict.Verdict.TheVariants as verdict
use Rattle.bt_decide.specs.declared.verdict.SameVerdict.{SameVerdict}
use Rattle.bt_decide.specs.declared.verdict.SameVerdict.TheVariants as of_same
use Rattle.bt_decide.specs.Verdicts.{IsGivenUpBy, IsVerdict, IsSameVerdict, splitters_of_both}
use Rattle.bt_grids.specs.declared.outcome.Layout.{Layout as ALayout}
use Rattle.bt_grids.specs.declared.outcome.Layout.TheVariants as layout
use Rattle.bt_layout.specs.Layouts.{IsLayout}
use Rattle.bt_grids.specs.declared.outcome.Smallest.{Smallest as ASmallest}
use Rattle.bt_grids.specs.declared.outcome.Smallest.TheVariants as smallest
use Rattle.bt_grids.specs.Grids.{IsSkipped, IsWithin}
use Rattle.bt_grids.specs.Asked.{request_on}
use Rattle.bt_layout.specs.Smallest.{IsSmallest}
use Rattle.bt_layout.proofs.Passed.{left_taken, left_within}
use Rattle.bt_model.specs.Requests.{LayoutRequest}
use Rattle.bt_place.specs.PlaceFormula.{place_formula}
use Rattle.bt_words.specs.declared.command.Command.{Command}
use Rattle.bt_words.specs.Commands.{IsCommand}
use Rattle.bt_words.specs.declared.command.Command.TheVariants.{FlowCheck, Recover, Check, Decide, Make, Layout, CheckLayout, Smallest, FindSmall, FlowFormula, PlaceFormula, Same, CheckSame, Build}
use Rattle.bt_words.specs.declared.command.NetworkFamily.{NetworkFamily}
use Rattle.bt_words.specs.declared.command.NetworkFamily.TheVariants.{Butterfly, Chain}
use Rattle.bt_print.specs.declared.answer.Answer.{Answer}
use Rattle.bt_print.specs.declared.answer.Answer.TheVariants as answer
use Rattle.bt_print.specs.declared.answer.Brief.TheVariants as brief
use Rattle.bt_designs.specs.declared.fault.DesignFault.{DesignFault}
use Rattle.bt_designs.specs.declared.fault.DesignFault.TheVariants as design
use Rattle.bt_designs.specs.declared.refusal.Refusal.TheVariants as refusal
use Rattle.bt_top.specs.declared.program.TheConstants.{READ_FAULT, NO_MEMORY}
use Rattle.bt_top.specs.Answering.{IsRightTo}
use Rattle.bt_print.specs.Answers.{status_of, gave_up_status}
use Rattle.bt_top.specs.Budgets.{IsAmple, IsAmpleFor, HasAmple, AmpleIsNeverSpent, AmpleNeverEndsSpent, IsAmpleOfPivots, AmplePivotsAreNeverMade, AmplePivotsNeverEndMade}
use Rattle.bt_top.specs.Comparing.{same_told}
use Rattle.bt_top.specs.Deciding.{verdict_told}
use Rattle.bt_designs.specs.Alone.{IsLoneNet}
use Rattle.bt_top.specs.Endings.{IsTold, status_after, Ends}
use Rattle.bt_top.specs.Inputs.{IsInput}
use Rattle.bt_top.specs.LayingOut.{IsLayoutTold}
use Rattle.bt_top.specs.Making.{made_of, balance_told}
use Rattle.bt_print.specs.Replies.{Reply, design_told, gen_told}
use Rattle.bt_designs.specs.Steps.{stopped, went_on}
use Rattle.bt_designs.specs.TwoDesigns.{IsTwoNets}
use Rattle.bt_designs.proofs.InTurns.{same_value, not_both}
use Rattle.bt_top.proofs.OneAnswer.{one_lone_net}
use Rattle.bt_designs.proofs.OnePair.{one_two_nets}
use Rattle.bt_designs.proofs.OneRequest.{one_lone_request, one_sided_request}
use Rattle.bt_top.proofs.AskedOfAny.{sided_request}

-- the steps of an ample budget are never used up
never_used_up : (f : FormulaParts) (learnt : ℕ) (steps : List Step) → IsAmple f learnt → IsUsedUp f learnt steps → ⊥
never_used_up f learnt steps ample used = omega (arith, ample, used.few)

-- the turns of an ample budget are never all made
never_all_made : (f : FormulaParts) (pivots : ℕ) (trace : PivotTrace) → IsAmpleOfPivots f pivots → PivotsOn f pivots trace → ⊥
never_all_made f pivots trace ample pivoted = omega (arith, ample, pivoted.few)

-- a status above those of verdicts and refusals, which a search that is given up may have
module _ (due : ℕ) (high : 4 ≤ due) where
  -- a reply that tells no answer with that status
  abbrev IsOther : Reply → Type 0
  IsOther reply = (a : Answer) → reply ≡ Ok a → status_of a ≢ due

  -- an answer with another status
  other_status : (b : Answer) → status_of b ≢ due → IsOther (Ok b)
  other_status b other a e is = other (ap status_of (same_value b a e) ∙ is)

  -- no search over the formula of so many splitters within the limits is given up with that status, whatever is defined
  abbrev NeverGivesUp : ℕ → FormulaParts → Limits → Type 0
  NeverGivesUp splitters f limits = (definitions : List Definition) (cause : GaveUp) → IsGivenUpBy splitters f limits definitions cause → gave_up_status cause ≢ due

  design_other : (fault : DesignFault) → IsOther (design_told fault)
  design_other (design.Refused r) = other_status (answer.Brief (brief.Refused r)) (λ e. omega (arith, e, high))
  design_other design.Memory = λ a e. absurd (not_both a _ (sym e))

  verdict_other : (n : Network) (p : Property) (limits : Limits) (v : Verdict) → NeverGivesUp n.splitters (flow_formula n p) limits → IsVerdict n p limits v → IsOther (Ok (verdict_told p v))
  verdict_other n p limits (verdict.Yes definitions log) never is = other_status (answer.Proved p definitions log) (λ e. omega (arith, e, high))
  verdict_other n p limits (verdict.No state) never is = other_status (answer.Broken p state) (λ e. omega (arith, e, high))
  verdict_other n p limits (verdict.GaveUp definitions cause) never is = other_status (answer.Undecided definitions cause) (never definitions.items cause is)

  pub decide_other : (p : Property) (limits : Limits) (bytes : List ℕ) (n : Network) (a : Answer) → IsLoneNet bytes (Ok n) → NeverGivesUp n.splitters (flow_formula n p) limits
      → IsRightTo (Decide p limits) bytes (Ok a) → status_of a ≢ due
  decide_other p limits bytes n a alone never (stopped fault h e) = design_other fault a (sym e)
  decide_other p limits bytes n a alone never (went_on m h (v, is, e)) =
      let same = same_value m n (one_lone_net bytes (Ok m) (Ok n) h alone) in
      verdict_other m p limits v (subst (λ x. NeverGivesUp x.splitters (flow_formula x p) limits) (sym same) never) is a (sym e)

  same_other : (n m : Network) (limits : Limits) (v : SameVerdict) → NeverGivesUp (splitters_of_both n m) (same_formula n m) limits → IsSameVerdict n m limits v → IsOther (Ok (same_told v))
  same_other n m limits (of_same.Yes definitions log) never is = other_status (answer.Same definitions log) (λ e. omega (arith, e, high))
  same_other n m limits (of_same.No pair) never is = other_status (answer.Differ pair) (λ e. omega (arith, e, high))
  same_other n m limits (of_same.GaveUp definitions cause) never is = other_status (answer.Undecided definitions cause) (never definitions.items cause is)

  pub compare_other : (limits : Limits) (bytes : List ℕ) (nets : Network × Network) (a : Answer) → IsTwoNets bytes (Ok nets) → NeverGivesUp (splitters_of_both nets.0 nets.1) (same_formula nets.0 nets.1) limits
      → IsRightTo (Same limits) bytes (Ok a) → status_of a ≢ due
  compare_other limits bytes nets a alone never (stopped fault h e) = design_other fault a (sym e)
  compare_other limits bytes nets a alone never (went_on found h (v, is, e)) =
      let same = same_value found nets (one_two_nets bytes (Ok found) (Ok nets) h alone) in
      same_other found.0 found.1 limits v (subst (λ (x : Network × Network). NeverGivesUp (splitters_of_both x.0 x.1) (same_formula x.0 x.1) limits) (sym same) never) is a (sym e)

  made_other : (family : NetworkFamily) (order : ℕ) (n : Network) (balanced : Bool) → IsOther (Ok (made_of family order n balanced))
  made_other family order n true = other_status (made_of family order n true) (λ e. omega (arith, e, high))
  made_other family order n false = other_status (made_of family order n false) (λ e. omega (arith, e, high))

  balance_other : (order : ℕ) (n : Network) (limits : Limits) (v : Verdict) → NeverGivesUp n.splitters (flow_formula n Balanced) limits → IsVerdict n Balanced limits v
      → IsOther (Ok (balance_told order n v))
  balance_other order n limits (verdict.Yes definitions log) never is = made_other Chain order n true
  balance_other order n limits (verdict.No state) never is = made_other Chain order n false
  balance_other order n limits (verdict.GaveUp definitions cause) never is = other_status (answer.Undecided definitions cause) (never definitions.items cause is)

  gen_other : (fault : GenFault) → IsOther (gen_told fault)
  gen_other (gen.Order order) = other_status (answer.Brief (brief.Refused (refusal.Order order))) (λ e. omega (arith, e, high))
  gen_other gen.Memory = λ a e. absurd (not_both a _ (sym e))

  pub butterfly_other : (order : ℕ) (limits : Limits) (bytes : List ℕ) (a : Answer) → IsRightTo (Make Butterfly order limits) bytes (Ok a) → status_of a ≢ due
  butterfly_other order limits bytes a (stopped fault h e) = gen_other fault a (sym e)
  butterfly_other order limits bytes a (went_on n h (holds, e)) = made_other Butterfly order n true a (sym e)

  pub chain_other : (order : ℕ) (limits : Limits) (bytes : List ℕ) (a : Answer) → NeverGivesUp (chain_net order).splitters (flow_formula (chain_net order) Balanced) limits
      → IsRightTo (Make Chain order limits) bytes (Ok a) → status_of a ≢ due
  chain_other order limits bytes a never (stopped fault h e) = gen_other fault a (sym e)
  chain_other order limits bytes a never (went_on n h (v, is, e)) =
      balance_other order n limits v (subst (λ x. NeverGivesUp x.splitters (flow_formula x Balanced) limits) (sym h.1) never) is a (sym e)

-- ---- steps

high_four : 4 ≤ 4
high_four = omega arith

-- a search with ample steps is given up for another cause
steps_never : (splitters : ℕ) (f : FormulaParts) (limits : Limits) → IsAmpleFor splitters f limits.learnt → (definitions : List Definition) (cause : GaveUp)
    → IsGivenUpBy splitters f limits definitions cause → gave_up_status cause ≢ 4
steps_never splitters f limits ample definitions (gave.Spent log) is = absurd (never_used_up (extended f definitions) limits.learnt log.steps (ample definitions is.0) is.1)
steps_never splitters f limits ample definitions (gave.Pivots trace) is = λ e. omega (arith, e)
steps_never splitters f limits ample definitions (gave.Wide wide) is = λ e. omega (arith, e)

layout_never : (r : LayoutRequest) (learnt : ℕ) (found : ALayout) (a : Answer) → IsAmple (place_formula r) learnt → IsLayout r learnt found → IsLayoutTold r found (Ok a) → status_of a ≢ 4
layout_never r learnt (layout.Found parts) a ample is (priorities, lays, again, e) = other_status 4 high_four (answer.LaidOut parts priorities) (λ is. omega (arith, is)) a (sym e)
layout_never r learnt (layout.Nowhere log) a ample is e = other_status 4 high_four (answer.Nowhere log) (λ is. omega (arith, is)) a (sym e)
layout_never r learnt (layout.Spent log) a ample is e = absurd (never_used_up (place_formula r) learnt log.steps ample is.1)

lay_never : (rect : Rect) (tier : Option Tier) (learnt : ℕ) (bytes : List ℕ) (a : Answer) → HasAmple (Layout rect tier learnt) bytes
    → IsRightTo (Layout rect tier learnt) bytes (Ok a) → status_of a ≢ 4
lay_never rect tier learnt bytes a ample (stopped fault h e) = design_other 4 high_four fault a (sym e)
lay_never rect tier learnt bytes a (r, alone, ample) (went_on s h (inl (found, is, told))) =
    let same = same_value s r (one_lone_request rect tier bytes (Ok s) (Ok r) h alone) in
    layout_never s learnt found a (subst (λ x. IsAmple (place_formula x) learnt) (sym same) ample) is told
lay_never rect tier learnt bytes a ample (went_on s h (inr (none, e))) = other_status 4 high_four answer.NotFound (λ is. omega (arith, is)) a (sym e)

-- with ample steps for each grid that isn't passed by none is given up
abbrev AmpleOn : Option Rect → LayoutRequest → ℕ → Type 0
AmpleOn first r learnt = (grid : Rect) → IsWithin r.rect grid → (IsSkipped first grid → ⊥) → IsAmple (place_formula (request_on r grid)) learnt

least_never : (first : Option Rect) (r : LayoutRequest) (learnt : ℕ) (found : ASmallest) (priorities : Vec Priority) → AmpleOn first r learnt → IsSmallest first r learnt found
    → IsOther 4 high_four (Ok (answer.Least first found priorities))
least_never first r learnt (smallest.Found earlier grid parts) priorities ample is =
    other_status 4 high_four (answer.Least first (smallest.Found earlier grid parts) priorities) (λ e. omega (arith, e))
least_never first r learnt (smallest.Nowhere earlier) priorities ample is = other_status 4 high_four (answer.Least first (smallest.Nowhere earlier) priorities) (λ e. omega (arith, e))
least_never first r learnt (smallest.Spent earlier grid log) priorities ample is =
    absurd (never_used_up (place_formula (request_on r grid)) learnt log.steps
    (ample grid (left_within first r learnt earlier.items grid is.0) (left_taken first r learnt earlier.items grid is.0)) is.1)

search_never : (first : Option Rect) (most : Rect) (tier : Option Tier) (learnt : ℕ) (bytes : List ℕ) (a : Answer) → HasAmple (Smallest first most tier learnt) bytes
    → IsRightTo (Smallest first most tier learnt) bytes (Ok a) → status_of a ≢ 4
search_never first most tier learnt bytes a ample (stopped fault h e) = design_other 4 high_four fault a (sym e)
search_never first most tier learnt bytes a ample (went_on s h (inr (none, e))) = design_other 4 high_four (design.Refused refusal.TooLarge) a (sym e)
search_never first most tier learnt bytes a (r, alone, ample) (went_on s h (inl (has, (found, is, (priorities, are, again, e))))) =
    let same = same_value s r (one_sided_request most tier bytes (Ok s) (Ok r) h alone) in
    let greatest = (sided_request most tier bytes r alone).rect in
    least_never first s learnt found priorities (subst (λ x. AmpleOn first x learnt) (sym same)
    (subst (λ rect. (grid : Rect) → IsWithin rect grid → (IsSkipped first grid → ⊥) → IsAmple (place_formula (request_on r grid)) learnt) (sym greatest) ample)) is a (sym e)

pub ample_is_never_spent : AmpleIsNeverSpent
ample_is_never_spent (FlowCheck p) bytes a ample h = absurd ample
ample_is_never_spent Recover bytes a ample h = absurd ample
ample_is_never_spent (Check p) bytes a ample h = absurd ample
ample_is_never_spent (Decide p limits) bytes a (n, alone, ample) h = decide_other 4 high_four p limits bytes n a alone (steps_never n.splitters (flow_formula n p) limits ample) h
ample_is_never_spent (Make Butterfly order limits) bytes a ample h = butterfly_other 4 high_four order limits bytes a h
ample_is_never_spent (Make Chain order limits) bytes a ample h = chain_other 4 high_four order limits bytes a (steps_never (chain_net order).splitters (flow_formula (chain_net order) Balanced) limits ample) h
ample_is_never_spent (Layout rect tier learnt) bytes a ample h = lay_never rect tier learnt bytes a ample h
ample_is_never_spent (CheckLayout rect tier) bytes a ample h = absurd ample
ample_is_never_spent (Smallest first most tier learnt) bytes a ample h = search_never first most tier learnt bytes a ample h
ample_is_never_spent (FindSmall most tier sides learnt) bytes a ample h = absurd ample
ample_is_never_spent (FlowFormula p) bytes a ample h = absurd ample
ample_is_never_spent (PlaceFormula rect tier) bytes a ample h = absurd ample
ample_is_never_spent (Same limits) bytes a (nets, alone, ample) h =
    compare_other 4 high_four limits bytes nets a alone (steps_never (splitters_of_both nets.0 nets.1) (same_formula nets.0 nets.1) limits ample) h
ample_is_never_spent CheckSame bytes a ample h = absurd ample
ample_is_never_spent (Build wish inputs outputs limits text) bytes a ample h = absurd ample

-- ---- turns

high_ten : 4 ≤ 10
high_ten = omega arith

-- a search with ample turns is given up for another cause
pivots_never : (splitters : ℕ) (f : FormulaParts) (limits : Limits) → IsAmpleOfPivots f limits.pivots → (definitions : List Definition) (cause : GaveUp)
    → IsGivenUpBy splitters f limits definitions cause → gave_up_status cause ≢ 10
pivots_never splitters f limits ample definitions (gave.Spent log) is = λ e. omega (arith, e)
pivots_never splitters f limits ample definitions (gave.Pivots trace) is = absurd (never_all_made f limits.pivots trace ample is.1)
pivots_never splitters f limits ample definitions (gave.Wide wide) is = λ e. omega (arith, e)

pub ample_pivots_are_never_made : AmplePivotsAreNeverMade
ample_pivots_are_never_made (FlowCheck p) bytes a ample h = absurd ample
ample_pivots_are_never_made Recover bytes a ample h = absurd ample
ample_pivots_are_never_made (Check p) bytes a ample h = absurd ample
ample_pivots_are_never_made (Decide p limits) bytes a (n, alone, ample) h = decide_other 10 high_ten p limits bytes n a alone (pivots_never n.splitters (flow_formula n p) limits ample) h
ample_pivots_are_never_made (Make Butterfly order limits) bytes a ample h = butterfly_other 10 high_ten order limits bytes a h
ample_pivots_are_never_made (Make Chain order limits) bytes a ample h = chain_other 10 high_ten order limits bytes a (pivots_never (chain_net order).splitters (flow_formula (chain_net order) Balanced) limits ample) h
ample_pivots_are_never_made (Layout rect tier learnt) bytes a ample h = absurd ample
ample_pivots_are_never_made (CheckLayout rect tier) bytes a ample h = absurd ample
ample_pivots_are_never_made (Smallest first most tier learnt) bytes a ample h = absurd ample
ample_pivots_are_never_made (FindSmall most tier sides learnt) bytes a ample h = absurd ample
ample_pivots_are_never_made (FlowFormula p) bytes a ample h = absurd ample
ample_pivots_are_never_made (PlaceFormula rect tier) bytes a ample h = absurd ample
ample_pivots_are_never_made (Same limits) bytes a (nets, alone, ample) h =
    compare_other 10 high_ten limits bytes nets a alone (pivots_never (splitters_of_both nets.0 nets.1) (same_formula nets.0 nets.1) limits ample) h
ample_pivots_are_never_made CheckSame bytes a ample h = absurd ample
ample_pivots_are_never_made (Build wish inputs outputs limits text) bytes a ample h = absurd ample

-- ---- how the program ends

-- what is told has a status of that kind only where the answer has it
told_status : (due : ℕ) (a : Answer) (sink : Passage) (status : ℕ) → due ≢ 7 → IsTold a sink status → status ≡ due → status_of a ≡ due
told_status due a sink status other (written, text, is) spent = by written is
  where
    by : (written : Result (Unit {0}) WriteFault) → status ≡ status_after (status_of a) written → status_of a ≡ due
    by (Ok done) is = sym is ∙ spent
    by (Err fault) is = absurd (other (sym spent ∙ is))

-- it ends with such a status only by a right answer that has it
ends_by : (due : ℕ) (words : List (List ℕ)) (source sink : Passage) (status : ℕ) (command : Command) (bytes : List ℕ) → due ≢ 6 → due ≢ 7 → due ≢ 8 → Ends words source sink status
    → IsCommand command words → IsInput command source bytes → ((a : Answer) → IsRightTo command bytes (Ok a) → status_of a ≢ due) → status ≢ due
ends_by due words source sink status command bytes six seven eight ends is told never spent = by (ends.complete command bytes is told)
  where
    by : ((a : Answer) × IsRightTo command bytes (Ok a) × IsTold a sink status) ⊎ (status ≡ READ_FAULT) ⊎ (status ≡ NO_MEMORY) → ⊥
    by (inl (a, right, was)) = never a right (told_status due a sink status seven was spent)
    by (inr (inl fault)) = six (sym spent ∙ fault)
    by (inr (inr none)) = eight (sym spent ∙ none)

pub ample_never_ends_spent : AmpleNeverEndsSpent
ample_never_ends_spent words source sink status command bytes ends is told ample =
    ends_by 4 words source sink status command bytes (λ e. omega (arith, e)) (λ e. omega (arith, e)) (λ e. omega (arith, e)) ends is told
    (λ a right. ample_is_never_spent command bytes a ample right)

pub ample_pivots_never_end_made : AmplePivotsNeverEndMade
ample_pivots_never_end_made words source sink status command bytes ends is told ample =
    ends_by 10 words source sink status command bytes (λ e. omega (arith, e)) (λ e. omega (arith, e)) (λ e. omega (arith, e)) ends is told
    (λ a right. ample_pivots_are_never_made command bytes a ample right)
