use Rattle.std.proofs.Common.{sym, subst, ◌∙◌}
use Rattle.std.proofs.lemmas.Bool.{iff_false}
use Rattle.bt_net.specs.Priorities.{Owns, IsFreeFor}
use Rattle.bt_net.specs.inner.Preferred.{told}
use Rattle.bt_net.proofs.PrioritySpelling.{owned_fits, text_apart}
use Rattle.bt_net.proofs.reading.next_owned.Goals.{else-owns-via-then-owns+else-is_free, else-owns-via-else-owns}
use Rattle.bt_net.proofs.reading.next_owned.Goals as goal

pub returns-then-is_free : goal.returns-then-is_free
returns-then-is_free c = ((c.in_ok-priority.ensures.some, c.owns.ensures.0 c.if-owns.true), (c.is_free.ensures c.args.wiring.now).0 c.if-is_free.true)

pub returns-else-owns : goal.returns-else-owns
returns-else-owns c = λ p line free.
    let n = c.args.wiring.now in
    let fits = owned_fits n p c.requires.small c.requires.few line.1 in
    let same = text_apart p c.in_ok-priority.priority fits c.in_ok-priority.ensures.fits (sym line.0 ∙ c.in_ok-priority.ensures.some) in
    elim c.else-owns.branch [
      | else-owns-via-then-owns+else-is_free w ↦ iff_false (w.is_free.ensures n) w.if-is_free.false (subst (λ q. IsFreeFor (told n c.args.preferred.now) q) same free)
      | else-owns-via-else-owns w ↦ iff_false c.owns.ensures w.if-owns.false (subst (Owns n) same line.1)
    ]
