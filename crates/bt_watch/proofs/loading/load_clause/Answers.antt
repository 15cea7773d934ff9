use Rattle.std.proofs.Common.{◌≡◌, ◌<◌, arith, length, [], sym, subst, ap, ◌∙◌}
use Rattle.std.specs.List.{All}
use Rattle.std.proofs.lemmas.List.{get_or_default}
use Rattle.std.proofs.lemmas.Bool.Decides.{nat_tests}
use Rattle.bt_cnf.specs.Formulas.{LitsBelow}
use Rattle.bt_cnf.specs.declared.literal.Lit.{Lit}
use Rattle.bt_cnf.specs.Units.{clause_at}
use Rattle.bt_watch.specs.Watched.{no_lit, first}
use Rattle.bt_watch.specs.Keeping.{IsWatchable}
use Rattle.bt_watch.specs.inner.Loads.{ArePaired}
use Rattle.bt_watch.specs.Propagating.{Keeps}
use Rattle.bt_cnf.proofs.Lists.{got_at}
use Rattle.bt_watch.proofs.Loaded.{many_loaded, paired_watchable}
use Rattle.bt_watch.proofs.loading.load_clause.Goals as goal

pub keep-requires-clause-watchable : goal.keep-requires-clause-watchable
keep-requires-clause-watchable c =
    let lits = c.clause-lits.result.now in
    let is : clause_at c.args.formula.now.clauses c.args.id ≡ lits = got_at c.args.formula.now.clauses c.args.id [] lits c.clause-lits.ensures.value in
    let below : LitsBelow c.args.formula.now.vars lits = subst (LitsBelow c.args.formula.now.vars) is (c.clause-lits.ensures.known.clauses c.args.id [] c.requires.below) in
    subst (λ n. IsWatchable n c.deref.result.now) (sym c.requires.variables)
    (subst (IsWatchable c.args.formula.now.vars) (sym c.deref.ensures.value) (paired_watchable c.args.formula.now.vars lits c.pair.new.paired.items below c.in_ok-pair-in-Some.ensures))

pub load_lit-requires-clause-variable : goal.load_lit-requires-clause-variable
load_lit-requires-clause-variable c =
    let lits = c.clause-lits.result.now in
    let is : clause_at c.args.formula.now.clauses c.args.id ≡ lits = got_at c.args.formula.now.clauses c.args.id [] lits c.clause-lits.ensures.value in
    let below : LitsBelow c.args.formula.now.vars lits = subst (LitsBelow c.args.formula.now.vars) is (c.clause-lits.ensures.known.clauses c.args.id [] c.requires.below) in
    let some : 0 < length lits = grind (arith, nat_tests) in
    subst (λ n. c.index-lits-0.result.var < n) (sym c.requires.variables)
    (subst (λ (l : Lit). l.var < c.args.formula.now.vars) (sym c.index-lits-0.is) (below 0 c.index-lits-0.result some))

pub load_lit-requires-clause-some : goal.load_lit-requires-clause-some
load_lit-requires-clause-some c =
    let lits = c.clause-lits.result.now in
    let is : clause_at c.args.formula.now.clauses c.args.id ≡ lits = got_at c.args.formula.now.clauses c.args.id [] lits c.clause-lits.ensures.value in
    let some : 0 < length lits = grind (arith, nat_tests) in
    omega (arith, some, ap length is)

pub load_lit-requires-clause-alone : goal.load_lit-requires-clause-alone
load_lit-requires-clause-alone c =
    let lits = c.clause-lits.result.now in
    let is : clause_at c.args.formula.now.clauses c.args.id ≡ lits = got_at c.args.formula.now.clauses c.args.id [] lits c.clause-lits.ensures.value in
    let some : 0 < length lits = grind (arith, nat_tests) in
    let here : first lits ≡ c.index-lits-0.result = get_or_default lits 0 no_lit c.index-lits-0.result some ∙ sym c.index-lits-0.is in
    subst (All (λ m. m ≡ c.index-lits-0.result)) (sym is) (λ k d small. c.in-None.ensures k d small ∙ here)

pub returns-in_ok-keep-in-Some-clause-loads : goal.returns-in_ok-keep-in-Some-clause-loads
returns-in_ok-keep-in-Some-clause-loads c =
    let all = c.args.formula.now.clauses in
    let lits = c.clause-lits.result.now in
    let s = c.args.search.now in
    let paired = c.pair.new.paired.items in
    let is : clause_at all c.args.id ≡ lits = got_at all c.args.id [] lits c.clause-lits.ensures.value in
    let keeps : Keeps paired c.args.id s c.keep.new.search =
    subst (λ n. Keeps paired n s c.keep.new.search) c.place.ensures (subst (λ ls. Keeps ls c.place.result s c.keep.new.search) c.deref.ensures.value c.in_ok-keep-in-Some.ensures) in
    many_loaded all c.args.id s c.keep.new.search paired c.requires.below c.requires.loaded (subst (λ ls. ArePaired ls paired) (sym is) c.in_ok-pair-in-Some.ensures) keeps
