use Rattle.std.proofs.Common.{codes, decimal, length, subst, refl, arith, length-append}
use Rattle.std.proofs.lemmas.Bool.{iff_false}
use Rattle.std.proofs.lemmas.List.{get_or_at}
use Rattle.bt_text.specs.Lines.{Lacks}
use Rattle.bt_net.proofs.PrioritySpelling.{cut_any, none_so}
use Rattle.bt_net.proofs.priority.read_any.Goals as goal

pub returns-in_err-splitter-clause-none : goal.returns-in_err-splitter-clause-none
returns-in_err-splitter-clause-none c = rw c.from_residual.ensures (λ k small is.
    (subst (Lacks 32) is c.in_err-splitter.ensures.none) (length (decimal k)) 32 (omega (arith, length-append (decimal k) (codes " any"))) (get_or_at (decimal k) 32 (codes "any") 32 (length (decimal k)) refl))

pub returns-then-is_word-clause-none : goal.returns-then-is_word-clause-none
returns-then-is_word-clause-none c =
    none_so c.read_number.result c.read_number.ensures.none (λ none k small is. none k small (cut_any c.args.words.now _ _ k small is c.in_ok-splitter.ensures.some).0)

pub returns-else-is_word-clause-none : goal.returns-else-is_word-clause-none
returns-else-is_word-clause-none c = λ k small is.
    iff_false c.is_word.ensures c.if-is_word.false (cut_any c.args.words.now _ _ k small is c.in_ok-splitter.ensures.some).1
