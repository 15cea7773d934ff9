-- Texts that lack a byte.
use Rattle.std.proofs.Common.{◌≡◌, ◌≢◌, ℕ, true, not, eqb, eq-eqb, List, ap}
use Rattle.std.specs.List.{list_all}
use Rattle.std.proofs.lemmas.List.Elements.{All-weaker}
use Rattle.std.proofs.lemmas.List.Sums.{AllPass-from_list_all}
use Rattle.bt_text.specs.Lines.{Lacks}

-- no byte of these is that byte
pub lacks : (byte : ℕ) (xs : List ℕ) → list_all (λ x. not (eqb x byte)) xs ≡ true → Lacks byte xs
lacks byte xs e = All-weaker (λ x. not (eqb x byte) ≡ true) (λ x. x ≢ byte) (λ x t same. cc (ap not (eq-eqb x byte same))) xs (AllPass-from_list_all (λ x. not (eqb x byte)) xs e)
