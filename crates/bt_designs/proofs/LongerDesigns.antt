-- A design at the front of longer bytes.
use Rattle.std.proofs.Common.{◌≡◌, ◌≢◌, ◌⊎◌, ℕ, ◌+◌, ◌≤◌, Bool, true, false, List, [], ◌∷◌, ◌++◌, length, drop, get_or, Result, Ok, Err, refl, sym, ◌∙◌, ap, subst, inl, inr, arith, ◌==◌}
use Rattle.std.specs.Prelude.{IsTrue, ◌||◌, codes}
use Rattle.std.specs.List.{AllByRecursion}
use Rattle.std.proofs.lemmas.Bool.{eqb-true}
use Rattle.std.proofs.lemmas.List.{append_assoc, take-append-drop}
use Rattle.std.proofs.lemmas.List.Elements.{All-nil, All-from_recursion}
use Rattle.bt_text.specs.Blanks.{IsBlank, SkipsBlanks}
use Rattle.bt_text.specs.Lines.{line, line_feeds, BeginsWithLines}
use Rattle.bt_json.specs.Json.{Json}
use Rattle.bt_json.specs.Grammar.{is_blank}
use Rattle.bt_json.specs.Answers.{IsFront}
use Rattle.bt_json.specs.Longer.{EndsAnyhow}
use Rattle.bt_json.specs.declared.fault.JsonFault.{JsonFault}
use Rattle.bt_json.specs.declared.fault.JsonFault.TheVariants as json
use Rattle.bt_json.proofs.FirstBytes.{value_begins}
use Rattle.bt_json.proofs.Longer.{value_stays, fault_stays}
use Rattle.bt_net.specs.declared.fault.NetFault.{NetFault}
use Rattle.bt_net.specs.declared.fault.NetFault.TheVariants as net
use Rattle.bt_net.specs.Network.{Network}
use Rattle.bt_net.specs.NetText.{header}
use Rattle.bt_net.specs.Readings.{Reading, IsPlainRead}
use Rattle.bt_net.specs.Longer.{with_line_feed, StaysRefused}
use Rattle.bt_net.specs.declared.network.Admitted.TheVariants.{Priorities}
use Rattle.bt_net.proofs.Longer.{reading_stays, stays_refused}
use Rattle.bt_designs.specs.declared.design.Laid.{Laid}
use Rattle.bt_designs.specs.declared.fault.DesignFault.{DesignFault}
use Rattle.bt_designs.specs.declared.fault.DesignFault.TheVariants.{Refused}
use Rattle.bt_designs.specs.declared.refusal.Refusal.TheVariants.{NetLine}
use Rattle.bt_designs.specs.declared.refusal.Refusal.TheVariants as refusal
use Rattle.bt_designs.specs.Designs.{IsJsonText, IsJsonOf, IsPreferringNet, IsTextDesign, IsDesign, IsToldOf}
use Rattle.bt_designs.specs.Longer.{DesignStays, IsOtherText, IsSettled, RefusalStays}
use Rattle.bt_designs.specs.Refusals.{json_told, net_told}
use Rattle.bt_designs.specs.Steps.{InTurn, stopped, went_on}
use Rattle.bt_designs.proofs.Blanks.{one_rest}
use Rattle.bt_designs.proofs.InTurns.{same_value, not_both}
use Rattle.bt_designs.proofs.OneDesign.{seen_ok}

-- ---- the first byte that isn't blank

-- it is the same of longer bytes
longer_skips : (bytes rest more : List ℕ) (byte : ℕ) → SkipsBlanks bytes (byte ∷ rest) → SkipsBlanks (bytes ++ more) (byte ∷ (rest ++ more))
longer_skips bytes rest more byte s = record {
  blanks = s.blanks;
  are_blanks = s.are_blanks;
  text_is = ap (λ b. b ++ more) s.text_is ∙ append_assoc s.blanks (byte ∷ rest) more;
  no_more = λ some. s.no_more (omega arith);
}

pub json_text_stays : (bytes more : List ℕ) → IsJsonText bytes → IsJsonText (bytes ++ more)
json_text_stays bytes more (rest, s) = (rest ++ more, longer_skips bytes rest more 123 s)

pub other_text_stays : (bytes more : List ℕ) → IsOtherText bytes → IsJsonText (bytes ++ more) → ⊥
other_text_stays bytes more (byte, rest, s, other) (after, t) =
    let same : byte ∷ (rest ++ more) ≡ 123 ∷ after = one_rest (bytes ++ more) (byte ∷ (rest ++ more)) (123 ∷ after) (longer_skips bytes rest more byte s) t in
    other cc

-- ---- JSON text

either : (x y : Bool) → IsTrue (x || y) → IsTrue x ⊎ IsTrue y
either true y t = inl t
either false y t = inr t

is_byte : (b k : ℕ) → IsTrue (b == k) → b ≡ k
is_byte b k t = eqb-true b k t

blank_is : (b : ℕ) → IsTrue (is_blank b) → IsBlank b
blank_is b t = first (either ((b == 32) || (b == 9) || (b == 10)) (b == 13) t)
  where
    third : IsTrue (b == 32) ⊎ IsTrue (b == 9) → IsBlank b
    third (inl x) = inl (is_byte b 32 x)
    third (inr x) = inr (inl (is_byte b 9 x))

    second : IsTrue ((b == 32) || (b == 9)) ⊎ IsTrue (b == 10) → IsBlank b
    second (inl x) = third (either (b == 32) (b == 9) x)
    second (inr x) = inr (inr (inl (is_byte b 10 x)))

    first : IsTrue ((b == 32) || (b == 9) || (b == 10)) ⊎ IsTrue (b == 13) → IsBlank b
    first (inl x) = second (either ((b == 32) || (b == 9)) (b == 10) x)
    first (inr x) = inr (inr (inr (is_byte b 13 x)))

blank_not : (b : ℕ) → is_blank b ≡ false → IsBlank b → ⊥
blank_not b other (inl e) = cc (ap is_blank e)
blank_not b other (inr (inl e)) = cc (ap is_blank e)
blank_not b other (inr (inr (inl e))) = cc (ap is_blank e)
blank_not b other (inr (inr (inr e))) = cc (ap is_blank e)

-- the value of JSON text ends whatever follows it
ends_anyhow : (bytes : List ℕ) (v : Json) (after : ℕ) → IsJsonText bytes → IsFront bytes v after → EndsAnyhow v
ends_anyhow bytes v after (rest, s) front =
    let spelled = front.spelled in
    let begins = value_begins v spelled.back spelled.second in
    let text : bytes ≡ spelled.front ++ (begins.byte ∷ (begins.rest ++ drop after bytes)) =
    sym (take-append-drop after bytes) ∙ ap (λ t. t ++ drop after bytes) (spelled.whole ∙ ap (λ b. spelled.front ++ b) begins.text_is) ∙ append_assoc spelled.front (begins.byte ∷ begins.rest) (drop after bytes) in
    let skips : SkipsBlanks bytes (begins.byte ∷ (begins.rest ++ drop after bytes)) = record {
      blanks = spelled.front;
      are_blanks = All-from_recursion IsBlank spelled.front (all_blank spelled.front spelled.first);
      text_is = text;
      no_more = λ some. blank_not begins.byte begins.no_blank;
    } in
    let same : begins.byte ∷ (begins.rest ++ drop after bytes) ≡ 123 ∷ rest = one_rest bytes (begins.byte ∷ (begins.rest ++ drop after bytes)) (123 ∷ rest) skips s in
    begins.ends cc
  where
    all_blank : (xs : List ℕ) → AllByRecursion (λ b. IsTrue (is_blank b)) xs → AllByRecursion IsBlank xs
    all_blank [] all = tt
    all_blank (x ∷ xs) all = (blank_is x all.0, all_blank xs all.1)

-- what comes of the JSON text of longer bytes
json_of_stays : {X : Type 0} (IsOf : Json → Result X DesignFault → Type 0) (bytes more : List ℕ) (answer : Result (X × ℕ) DesignFault) → IsJsonText bytes → ((fault : JsonFault) → answer ≡ Err (json_told fault) → fault ≢ json.Json (length bytes))
    → IsJsonOf IsOf bytes answer → IsJsonOf IsOf (bytes ++ more) answer
json_of_stays IsOf bytes more answer is settled (stopped fault h e) = stopped fault (fault_stays bytes more fault (settled fault e) h) e
json_of_stays IsOf bytes more answer is settled (went_on read h k) = went_on read (value_stays bytes more read.0 read.1 (ends_anyhow bytes read.0 read.1 is h.front) h) k

-- ---- network text

not_blank_n : IsBlank 110 → ⊥
not_blank_n (inl e) = omega (arith, e)
not_blank_n (inr (inl e)) = omega (arith, e)
not_blank_n (inr (inr (inl e))) = omega (arith, e)
not_blank_n (inr (inr (inr e))) = omega (arith, e)

-- bytes that begin with a network begin with `n`
pub net_first : (bytes rest : List ℕ) (n : Network) (ls : List (List ℕ)) → BeginsWithLines bytes (header n ∷ ls) rest → IsOtherText bytes
net_first [] rest n ls (inl e) = absurd (omega (arith, ap (λ b. get_or b 0 0) e))
net_first [] rest n ls (inr e) = absurd (omega (arith, ap (λ b. get_or b 0 0) e.0))
net_first (b ∷ bytes) rest n ls begins =
    (b, bytes, record { blanks = []; are_blanks = All-nil IsBlank; text_is = refl; no_more = λ some blank. not_blank_n (subst IsBlank (first begins) blank) }, λ same. omega (arith, first begins, same))
  where
    first : BeginsWithLines (b ∷ bytes) (header n ∷ ls) rest → b ≡ 110
    first (inl e) = omega (arith, ap (λ x. get_or x 0 0) e)
    first (inr e) = omega (arith, ap (λ x. get_or x 0 0) e.0)

-- ---- designs

json_within : {X : Type 0} (IsOf : Json → Result X DesignFault → Type 0) (bytes : List ℕ) (n : X) (used : ℕ) → IsJsonOf IsOf bytes (Ok (n, used)) → used ≤ length bytes
json_within {X} IsOf bytes n used (stopped fault h e) = absurd (not_both (n, used) (json_told fault) e)
json_within {X} IsOf bytes n used (went_on read h k) =
    let found = seen_ok (λ (m : X). (m, read.1)) k.0 (n, used) k.2 in
    let same = ap (λ (x : X × ℕ). x.1) found.2 in
    omega (arith, same, h.front.within)

text_within : (bytes : List ℕ) (n : Network) (used : ℕ) → IsTextDesign bytes (Ok (n, used)) → used ≤ length bytes
text_within bytes n used (stopped fault h e) = absurd (not_both (n, used) (net_told fault) e)
text_within bytes n used (went_on read h e) =
    let same = ap (λ (x : Network × ℕ). x.1) (same_value (n, used) (read.net, read.used) e) in
    omega (arith, same, h.used)

-- a design ends within the bytes
pub design_within : (bytes : List ℕ) (n : Network) (used : ℕ) → IsDesign bytes (Ok (n, used)) → used ≤ length bytes
design_within bytes n used (inl h) = json_within IsPreferringNet bytes n used h.1
design_within bytes n used (inr h) = text_within bytes n used h.1

module _ (bytes : List ℕ) (n : Network) (used : ℕ) where
  abbrev pub Stays : Type 0
  Stays = ((more : List ℕ) → IsDesign (bytes ++ more) (Ok (n, used))) ⊎ ((used ≡ length bytes) × ((more : List ℕ) → IsDesign (bytes ++ 10 ∷ more) (Ok (n, used + 1))))

  text_stays : IsTextDesign bytes (Ok (n, used)) → Stays
  text_stays (stopped fault h e) = absurd (not_both (n, used) (net_told fault) e)
  text_stays (went_on read h e) = by (reading_stays Priorities bytes read h)
    where
      other : IsOtherText bytes
      other = net_first bytes (drop read.used bytes) read.net (h.begins.edge_lines ++ (h.begins.priority_lines ++ (h.begins.demand_lines ++ (h.begins.block_lines ++ codes "end" ∷ [])))) h.begins.begins

      same : ◌≡◌ {A = Network × ℕ} (n, used) (read.net, read.used)
      same = same_value (n, used) (read.net, read.used) e

      by : ((more : List ℕ) → IsPlainRead (bytes ++ more) (Ok read)) ⊎ ((read.used ≡ length bytes) × ((more : List ℕ) → IsPlainRead (bytes ++ 10 ∷ more) (Ok (with_line_feed read)))) → Stays
      by (inl stays) = inl (λ more. inr (other_text_stays bytes more other, went_on read (stays more) e))
      by (inr (all, fed)) =
          inr (ap (λ (x : Network × ℕ). x.1) same ∙ all, λ more. inr (other_text_stays bytes (10 ∷ more) other, went_on (with_line_feed read) (fed more) (ap (λ (x : Network × ℕ). Ok (x.0, x.1 + 1)) same)))

  design_stays_of : IsDesign bytes (Ok (n, used)) → Stays
  design_stays_of (inl (is, h)) =
      inl (λ more. inl (json_text_stays bytes more is, json_of_stays IsPreferringNet bytes more (Ok (n, used)) is (λ fault e. absurd (not_both (n, used) (json_told fault) e)) h))
  design_stays_of (inr (none, h)) = text_stays h

-- a design at the front of bytes stands at the front of longer ones
pub design_stays : DesignStays
design_stays bytes n used h = design_stays_of bytes n used h

-- equal faults of results
pub same_fault_of : {A : Type 0} (f g : DesignFault) → ◌≡◌ {A = Result A DesignFault} (Err f) (Err g) → f ≡ g
same_fault_of f g e = cc

-- a refusal of network text that ends with a line feed, but where it is that of the line that is next
pub read_refused : {A : Type 0} (IsRead : List ℕ → Result Reading NetFault → Type 0) → StaysRefused IsRead → (value : Reading → A) (bytes more lines : List ℕ) (fault : DesignFault) → bytes ≡ line lines
    → fault ≢ Refused (NetLine (line_feeds bytes + 1)) → InTurn (IsRead bytes) (λ f. Err (net_told f)) (λ read answer. answer ≡ Ok (value read)) (Err fault)
    → InTurn (IsRead (bytes ++ more)) (λ f. Err (net_told f)) (λ read answer. answer ≡ Ok (value read)) (Err fault)
read_refused IsRead stays value bytes more lines fault is other (went_on read h e) = absurd (not_both (value read) fault (sym e))
read_refused IsRead stays value bytes more lines fault is other (stopped why h e) =
    stopped why (subst (λ b. IsRead (b ++ more) (Err why)) (sym is) (stays lines more why next (subst (λ b. IsRead b (Err why)) is h))) e
  where
    told : fault ≡ net_told why
    told = same_fault_of fault (net_told why) e

    next : why ≢ net.NetLine (line_feeds (line lines) + 1)
    next same = other (told ∙ ap net_told same ∙ ap (λ b. Refused (NetLine (line_feeds b + 1))) (sym is))

-- a refusal of JSON text that isn't that it ends there is none of its end below
json_settled : {A : Type 0} (bytes : List ℕ) (fault : DesignFault) → fault ≢ Refused (refusal.Json (length bytes)) → (why : JsonFault) → ◌≡◌ {A = Result A DesignFault} (Err fault) (Err (json_told why)) → why ≢ json.Json (length bytes)
json_settled bytes fault other why e same = other (same_fault_of fault (json_told why) e ∙ ap json_told same)

-- what is told of the layout that comes of JSON text
module _ {Y : Type 0} (IsOf : Json → Result Laid DesignFault → Type 0) (told : Laid → Y) (bytes : List ℕ) where
  -- it stands at the front of longer bytes
  pub told_stays : (more : List ℕ) (y : Y) (used : ℕ) → IsJsonText bytes → IsToldOf IsOf told bytes (Ok (y, used)) → IsToldOf IsOf told (bytes ++ more) (Ok (y, used))
  told_stays more y used is (stopped fault h e) = absurd (not_both (y, used) fault e)
  told_stays more y used is (went_on found h e) =
      went_on found (json_of_stays IsOf bytes more (Ok found) is (λ fault other. absurd (not_both found _ other)) h) e

  -- ends within the bytes
  pub told_within : (y : Y) (used : ℕ) → IsToldOf IsOf told bytes (Ok (y, used)) → used ≤ length bytes
  told_within y used (stopped fault h e) = absurd (not_both (y, used) fault e)
  told_within y used (went_on found h e) =
      let same : used ≡ found.1 = ap (λ (x : Y × ℕ). x.1) (same_value (y, used) (told found.0, found.1) e) in omega (arith, same, json_within IsOf bytes found.0 found.1 h)

  -- and is refused alike there
  pub told_refused : (more : List ℕ) (fault : DesignFault) → IsJsonText bytes → fault ≢ Refused (refusal.Json (length bytes)) → IsToldOf IsOf told bytes (Err fault)
      → IsToldOf IsOf told (bytes ++ more) (Err fault)
  told_refused more fault is other (went_on found h e) = absurd (not_both (told found.0, found.1) fault (sym e))
  told_refused more fault is other (stopped why h e) =
      let same : why ≡ fault = sym (same_fault_of {A = Y × ℕ} fault why e) in
      stopped why (json_of_stays IsOf bytes more (Err why) is (json_settled bytes why (subst (λ f. f ≢ Refused (refusal.Json (length bytes))) (sym same) other)) h) e

-- other text is no JSON text
pub not_json : (bytes : List ℕ) → IsOtherText bytes → IsJsonText bytes → ⊥
not_json bytes (byte, rest, s, unlike) (after, t) = let same : byte ∷ rest ≡ 123 ∷ after = one_rest bytes (byte ∷ rest) (123 ∷ after) s t in unlike cc

module _ (bytes more : List ℕ) (fault : DesignFault) where
  refusal_stays_of : IsSettled bytes fault → IsDesign bytes (Err fault) → IsDesign (bytes ++ more) (Err fault)
  refusal_stays_of (inl (is, other)) (inl (json, h)) = inl (json_text_stays bytes more is, json_of_stays IsPreferringNet bytes more (Err fault) is (json_settled bytes fault other) h)
  refusal_stays_of (inl (is, other)) (inr (none, h)) = absurd (none is)
  refusal_stays_of (inr (text, (lines, e), other)) (inl (is, h)) = absurd (not_json bytes text is)
  refusal_stays_of (inr (text, (lines, e), other)) (inr (none, h)) =
      inr (other_text_stays bytes more text, read_refused IsPlainRead (stays_refused Priorities) (λ read. (read.net, read.used)) bytes more lines fault e other h)

-- a settled refusal is that of all longer bytes
pub refusal_stays : RefusalStays
refusal_stays bytes more fault settled h = refusal_stays_of bytes more fault settled h
