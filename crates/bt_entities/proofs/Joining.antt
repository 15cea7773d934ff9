-- Entities one after another, with a comma between two.
use Rattle.std.proofs.Common.{◌≡◌, ℕ, ◌+◌, ◌<◌, ◌≤◌, List, [], ◌∷◌, ◌++◌, length, take, get_or, refl, sym, ◌∙◌, ap, arith, append_assoc}
use Rattle.std.specs.List.{enumerate_from, join_with_byte}
use Rattle.std.proofs.lemmas.Bool.{ne_eqb}
use Rattle.std.proofs.lemmas.List.{take_more, take_all, length-take-le, length-map, get_or-map}
use Rattle.std.proofs.lemmas.List.FromFn.{length-enumerate_from, get_or-enumerate_from}
use Rattle.bt_parts.specs.declared.hand.Priority.{Priority}
use Rattle.bt_parts.specs.Hands.{priority_of}
use Rattle.bt_parts.specs.declared.part.Part.{Part}
use Rattle.bt_entities.specs.declared.version.Version.{Version}
use Rattle.bt_entities.specs.Written.{entity_text, entity_texts, comma_before}

-- a comma, where there are pieces
abbrev comma : List (List ℕ) → List ℕ
comma [] = []
comma (x ∷ xs) = 44 ∷ []

comma_is : (i : ℕ) (pieces : List (List ℕ)) → length pieces ≡ i → comma pieces ≡ comma_before i
comma_is i [] counted = rw (← counted) refl
comma_is i (x ∷ xs) counted = let other : i ≡ 0 → ⊥ = λ zero. omega (arith, counted, zero) in rw (ne_eqb i 0 other) refl

-- one piece more
join_more : (pieces : List (List ℕ)) (x : List ℕ) → join_with_byte 44 (pieces ++ x ∷ []) ≡ join_with_byte 44 pieces ++ (comma pieces ++ x)
join_more [] x = refl
join_more (y ∷ []) x = refl
join_more (y ∷ z ∷ zs) x =
    ap (λ t. y ++ (44 ∷ t)) (join_more (z ∷ zs) x) ∙ sym (append_assoc y (44 ∷ join_with_byte 44 (z ∷ zs)) (44 ∷ x))

-- of blueprints in one version, with these priorities
module _ (version : Version) (priorities : List Priority) where
  abbrev numbered_text : ℕ × Part → List ℕ
  numbered_text numbered = entity_text version (numbered.0 + 1) numbered.1 (priority_of priorities numbered.0)

  count_of : (parts : List Part) → length (entity_texts version parts priorities) ≡ length parts
  count_of parts = length-map (enumerate_from 0 parts) numbered_text ∙ length-enumerate_from 0 parts

  -- the entity with an index
  entity_at : (parts : List Part) (i : ℕ) (d : Part) (e : List ℕ) → i < length parts → get_or (entity_texts version parts priorities) i e ≡ entity_text version (i + 1) (get_or parts i d) (priority_of priorities i)
  entity_at parts i d e inside =
      let numbered : i < length (enumerate_from 0 parts) = omega (arith, inside, length-enumerate_from 0 parts) in
      get_or-map numbered_text (enumerate_from 0 parts) i (0, d) e numbered
      ∙ ap numbered_text (get_or-enumerate_from 0 parts i (0, d) inside)
      ∙ ap (λ n. numbered_text (n, get_or parts i d)) (let counted : 0 + i ≡ i = omega arith in counted)

  -- one entity more behind a front
  pub entity_pushed : (parts : List Part) (i : ℕ) (d : Part) (front now next : List ℕ) → i < length parts → now ≡ front ++ join_with_byte 44 (take i (entity_texts version parts priorities))
      → next ≡ now ++ (comma_before i ++ entity_text version (i + 1) (get_or parts i d) (priority_of priorities i)) → next ≡ front ++ join_with_byte 44 (take (i + 1) (entity_texts version parts priorities))
  entity_pushed parts i d front now next inside so_far is =
      let es = entity_texts version parts priorities in
      let among : i < length es = omega (arith, inside, count_of parts) in
      let within : i ≤ length es = omega (arith, among) in
      let before = join_with_byte 44 (take i es) in
      let x = entity_text version (i + 1) (get_or parts i d) (priority_of priorities i) in
      is ∙ ap (λ t. t ++ (comma_before i ++ x)) so_far ∙ append_assoc front before (comma_before i ++ x)
      ∙ ap (λ t. front ++ t)
      (ap (λ c. before ++ (c ++ x)) (sym (comma_is i (take i es) (length-take-le i es within)))
      ∙ sym (join_more (take i es) x)
      ∙ ap (λ y. join_with_byte 44 (take i es ++ y ∷ [])) (sym (entity_at parts i d [] inside))
      ∙ ap (join_with_byte 44) (sym (take_more es i [] among)))

  -- all entities stand there
  pub all_pushed : (parts : List Part) (i : ℕ) → length parts ≤ i → take i (entity_texts version parts priorities) ≡ entity_texts version parts priorities
  all_pushed parts i ended = take_all i (entity_texts version parts priorities) (omega (arith, ended, count_of parts))
