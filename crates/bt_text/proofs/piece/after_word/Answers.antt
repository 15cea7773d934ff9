use Rattle.std.proofs.Common.{◌≡◌, ◌++◌, Option, None, Some}
use Rattle.std.specs.Option.{MatchOption, IfSome, IfNone}
use Rattle.std.proofs.lemmas.Bool.Decides.{Decides-eqb}
use Rattle.std.proofs.lemmas.Slice.Eq.{strip_prefix_is}
use Rattle.bt_text.proofs.piece.after_word.Goals as goal

some_part : {X : Type 0} (P : Type 0) (r : Option X) (Q : X → Type 0) → MatchOption r P Q → IfSome r Q
some_part P None Q h = tt
some_part P (Some x) Q h = h

none_part : {X : Type 0} (P : Type 0) (r : Option X) (Q : X → Type 0) → MatchOption r P Q → IfNone r P
none_part P None Q h = h
none_part P (Some x) Q h = tt

pub returns-clause-some : goal.returns-clause-some
returns-clause-some c =
    some_part _ c.strip_prefix.result (λ x. c.args.text.now ≡ c.args.word.now ++ x.now)
    (strip_prefix_is Decides-eqb c.args.text.now c.args.word.now c.strip_prefix.result c.strip_prefix.ensures.cases)

pub returns-clause-none : goal.returns-clause-none
returns-clause-none c =
    none_part _ c.strip_prefix.result (λ x. c.args.text.now ≡ c.args.word.now ++ x.now)
    (strip_prefix_is Decides-eqb c.args.text.now c.args.word.now c.strip_prefix.result c.strip_prefix.ensures.cases)
