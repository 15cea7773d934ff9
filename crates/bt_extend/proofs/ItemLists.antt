-- Lists of items in a text, each after a space.
use Rattle.std.proofs.Common.{◌≡◌, ◌≢◌, ℕ, List, [], ◌∷◌, ◌++◌, map, refl, sym, ◌∙◌, ap, inr, append_assoc, append-nil}
use Rattle.std.specs.List.{All}
use Rattle.std.proofs.lemmas.List.Elements.{All-head, All-tail, All-push, All-nil, All-cons, All-append}
use Rattle.bt_text.specs.Lines.{Lacks}
use Rattle.bt_text.specs.Pieces.{BeginsWith}
use Rattle.bt_log.specs.LogText.{words}
use Rattle.bt_extend.specs.Items.{LeadsToItem, LeadsToNone, HaveNoSpace, StopsAfter}
use Rattle.bt_text.proofs.Pieces.{piece_is}

-- the word of the first item, and what follows it
first_word : {A : Type 0} (word : A → List ℕ) (x : A) (xs : List A) (rest : List ℕ) → words word (x ∷ xs) ++ rest ≡ 32 ∷ (word x ++ (words word xs ++ rest))
first_word word x xs rest = ap (λ t. 32 ∷ t) (append_assoc (word x) (words word xs) rest)

-- one more word at the end
words_push : {A : Type 0} (word : A → List ℕ) (xs : List A) (x : A) (rest : List ℕ) → words word (xs ++ x ∷ []) ++ rest ≡ words word xs ++ 32 ∷ (word x ++ rest)
words_push word [] x rest = ap (λ v. 32 ∷ (v ++ rest)) (append-nil (word x))
words_push word (y ∷ xs) x rest =
    first_word word y (xs ++ x ∷ []) rest ∙ ap (λ t. 32 ∷ (word y ++ t)) (words_push word xs x rest) ∙ sym (first_word word y xs (32 ∷ (word x ++ rest)))

-- words begin with a space, or with what follows where there are none
pub words_begin : {A : Type 0} (word : A → List ℕ) (xs : List A) (rest : List ℕ) → BeginsWith 32 rest → BeginsWith 32 (words word xs ++ rest)
words_begin word [] rest begins = begins
words_begin word (x ∷ xs) rest begins = inr (word x ++ (words word xs ++ rest), first_word word x xs rest)

-- the word of the first item comes next
leads_to_first : {A : Type 0} (P : A → Type 0) (word : A → List ℕ) → HaveNoSpace P word → (x : A) (xs : List A) (text rest : List ℕ)
    → P x → BeginsWith 32 rest → text ≡ words word (x ∷ xs) ++ rest → LeadsToItem P word text x (words word xs ++ rest)
leads_to_first P word lacks x xs text rest stands begins e = (
  stands,
  record {
    lacks = lacks x stands;
    text_is = e ∙ first_word word x xs rest;
    begins = words_begin word xs rest begins;
  },
)

-- a text has one list of words up to where no more comes
pub words_same : {A : Type 0} (P : A → Type 0) (word : A → List ℕ) → HaveNoSpace P word → (xs ys : List A) (r s : List ℕ) → All P xs → All P ys
    → BeginsWith 32 r → BeginsWith 32 s → LeadsToNone P word r → LeadsToNone P word s → words word xs ++ r ≡ words word ys ++ s
    → (map word xs ≡ map word ys) × (r ≡ s)
words_same P word lacks [] [] r s px py br bs nr ns e = (refl, e)
words_same P word lacks [] (y ∷ ys) r s px py br bs nr ns e =
    absurd (nr y (words word ys ++ s) (leads_to_first P word lacks y ys r s (All-head P y ys py) bs e))
words_same P word lacks (x ∷ xs) [] r s px py br bs nr ns e =
    absurd (ns x (words word xs ++ r) (leads_to_first P word lacks x xs s r (All-head P x xs px) br (sym e)))
words_same P word lacks (x ∷ xs) (y ∷ ys) r s px py br bs nr ns e =
    let both : 32 ∷ (word x ++ (words word xs ++ r)) ≡ 32 ∷ (word y ++ (words word ys ++ s)) =
    sym (first_word word x xs r) ∙ e ∙ first_word word y ys s in
    let tails : word x ++ (words word xs ++ r) ≡ word y ++ (words word ys ++ s) = cc in
    let pieces = piece_is 32 (word x) (words word xs ++ r) (word y) (words word ys ++ s) (lacks x (All-head P x xs px)) (lacks y (All-head P y ys py))
    (words_begin word xs r br) (words_begin word ys s bs) tails in
    let more = words_same P word lacks xs ys r s (All-tail P x xs px) (All-tail P y ys py) br bs nr ns pieces.1 in
    let first = pieces.0 in let fronts = more.0 in
    (cc, more.1)

-- items are one list where each has a word of its own
pub map_same : {A : Type 0} (P : A → Type 0) (word : A → List ℕ) → ((x y : A) → P x → P y → word x ≡ word y → x ≡ y)
    → (xs ys : List A) → All P xs → All P ys → map word xs ≡ map word ys → xs ≡ ys
map_same P word apart [] [] px py e = refl
map_same P word apart [] (y ∷ ys) px py e = cc
map_same P word apart (x ∷ xs) [] px py e = cc
map_same P word apart (x ∷ xs) (y ∷ ys) px py e =
    let heads : word x ≡ word y = cc in
    let tails : map word xs ≡ map word ys = cc in
    let first : x ≡ y = apart x y (All-head P x xs px) (All-head P y ys py) heads in
    let more : xs ≡ ys = map_same P word apart xs ys (All-tail P x xs px) (All-tail P y ys py) tails in
    cc

-- the words of these items were read, and the rest is still to be read
pub record Walks {A : Type 0} (P : A → Type 0) (word : A → List ℕ) (text : List ℕ) (items : List A) (rest : List ℕ) : Type 0 where
  pub stand : All P items
  pub text_is : text ≡ words word items ++ rest
  pub begins : BeginsWith 32 text → BeginsWith 32 rest

pub walk_more : {A : Type 0} (P : A → Type 0) (word : A → List ℕ) (text : List ℕ) (items : List A) (rest after : List ℕ) (x : A)
    → Walks P word text items rest → LeadsToItem P word rest x after → Walks P word text (items ++ x ∷ []) after
walk_more P word text items rest after x walk leads = record {
  stand = All-push P items x walk.stand leads.0;
  text_is = walk.text_is ∙ ap (λ r. words word items ++ r) leads.1.text_is ∙ sym (words_push word items x after);
  begins = λ b. leads.1.begins;
}

pub walk_ends : {A : Type 0} (P : A → Type 0) (word : A → List ℕ) (text : List ℕ) (items : List A) (rest : List ℕ)
    → Walks P word text items rest → LeadsToNone P word rest → StopsAfter P word text items rest
walk_ends P word text items rest walk none = record { text_is = walk.text_is; begins = walk.begins; no_more = none }

-- what follows the items of a text is what follows those of any spelling of it
pub stops_at : {A : Type 0} (P : A → Type 0) (word : A → List ℕ) → HaveNoSpace P word → (text : List ℕ) (xs ys : List A) (r s : List ℕ)
    → All P xs → StopsAfter P word text xs r → All P ys → BeginsWith 32 s → LeadsToNone P word s → text ≡ words word ys ++ s → r ≡ s
stops_at P word lacks text xs ys r s px stops py begins none e =
    (words_same P word lacks xs ys r s px py (stops.begins (rw e (words_begin word ys s begins))) begins stops.no_more none (sym stops.text_is ∙ e)).1

-- words lack each byte but the space that their items lack
pub words_lack : {A : Type 0} (P : A → Type 0) (word : A → List ℕ) (byte : ℕ) → 32 ≢ byte → ((x : A) → P x → Lacks byte (word x))
    → (xs : List A) → All P xs → Lacks byte (words word xs)
words_lack P word byte apart lacks [] all = All-nil (λ b. b ≢ byte)
words_lack P word byte apart lacks (x ∷ xs) all =
    All-append (λ b. b ≢ byte) (32 ∷ word x) (words word xs) (All-cons (λ b. b ≢ byte) 32 (word x) apart (lacks x (All-head P x xs all)))
    (words_lack P word byte apart lacks xs (All-tail P x xs all))
