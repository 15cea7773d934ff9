-- What has to be formed of an answer's text.
use Rattle.std.proofs.Common.{◌≡◌, sym, subst}
use Rattle.bt_print.specs.declared.answer.Answer.{Answer}
use Rattle.bt_print.specs.Answers.{text_of}
use Rattle.bt_print.specs.Lines.{formed_text}

-- it is all of it where it is of an equal answer
pub formed_whole : (a whole : Answer) → a ≡ whole → formed_text whole ≡ text_of whole → formed_text a ≡ text_of a
formed_whole a whole is e = subst (λ x. formed_text x ≡ text_of x) (sym is) e
