-- Where no item comes next in a text, and that no word has a space.
use Rattle.std.proofs.Common.{◌≡◌, ◌≢◌, ℕ, List, [], ◌∷◌, ◌++◌, refl, inr, arith}
use Rattle.std.specs.Fmt.{decimal}
use Rattle.std.proofs.lemmas.List.Elements.{All-nil, All-cons}
use Rattle.bt_text.specs.Lines.{Lacks}
use Rattle.bt_text.specs.Pieces.{BeginsWith}
use Rattle.bt_text.proofs.Pieces.{piece_is}
use Rattle.bt_frac.specs.Ratio.{IsLowest}
use Rattle.bt_frac.specs.Texts.{frac_text}
use Rattle.bt_frac.proofs.FracTexts.{frac_text_lacks}
use Rattle.bt_extend.specs.Items.{LeadsToNone, HaveNoSpace}
use Rattle.bt_extend.specs.Words.{IsNumber, IsWrittenLit, written_lit_text}
use Rattle.bt_extend.proofs.Numbers.{number_lacks, lit_lacks}

-- texts with other first bytes are apart
pub differ : (b c : ℕ) (xs ys : List ℕ) → b ≢ c → b ∷ xs ≡ c ∷ ys → ⊥
differ b c xs ys apart e = let heads : b ≡ c = cc in apart heads

pub lits_have_no_space : HaveNoSpace IsWrittenLit written_lit_text
lits_have_no_space l h = lit_lacks l 32 h (omega arith) (omega arith)

pub hints_have_no_space : HaveNoSpace IsNumber decimal
hints_have_no_space n h = number_lacks n 32 h (omega arith)

pub fracs_have_no_space : HaveNoSpace IsLowest frac_text
fracs_have_no_space r h = frac_text_lacks r 32 h (omega arith) (omega arith) (omega arith)

pub zero_lacks : Lacks 32 (48 ∷ [])
zero_lacks = All-cons (λ b. b ≢ 32) 48 [] (λ e. omega arith) (All-nil (λ b. b ≢ 32))

-- no item comes next where `0` does
pub zero_is_none : {A : Type 0} (P : A → Type 0) (word : A → List ℕ) → ((x : A) → P x → word x ≡ 48 ∷ [] → ⊥)
    → (rest : List ℕ) → BeginsWith 32 rest → LeadsToNone P word (32 ∷ 48 ∷ rest)
zero_is_none P word apart rest begins x after leads =
    let text_is = leads.1.text_is in
    let same : word x ++ after ≡ (48 ∷ []) ++ rest = cc in
    apart x leads.0 (piece_is 32 (word x) after (48 ∷ []) rest leads.1.lacks zero_lacks leads.1.begins begins same).0

-- no item comes next where nothing does
pub end_is_none : {A : Type 0} (P : A → Type 0) (word : A → List ℕ) → LeadsToNone P word []
end_is_none P word x after leads = let text_is = leads.1.text_is in cc

pub zero_begins : (rest : List ℕ) → BeginsWith 32 (32 ∷ 48 ∷ rest)
zero_begins rest = inr (48 ∷ rest, refl)
