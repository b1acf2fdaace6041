-- No two findings of an item have the same token, byte and code: those of rules differ, the letters
-- of options rise, and no rule has the code of these.
use Rattle.std.proofs.Common.{◌≡◌, ◌≢◌, ℕ, ◌+◌, ◌<◌, ◌≤◌, Bool, true, false, cond, List, [], ◌∷◌, ◌++◌, map, All, refl, sym, subst, ap, ap₂, ◌∙◌, arith}
use Rattle.std.specs.List.{AllByRecursion as Each, AllPairs, enumerate_from, flat_map}
use Rattle.std.proofs.lemmas.Bool.{false≢true}
use Rattle.std.proofs.lemmas.List.Elements.{All-from_recursion, recursion_from_All}
use Rattle.snl_facts.specs.Each.{EachTwo, across, each_append, each_map, each_weaker, pairs_from_two, two_across, two_from_pairs, two_map, two_weaker}
use Rattle.snl_grammar.specs.declared.tree.item.Item.{Item}
use Rattle.snl_grammar.specs.declared.tree.item.Item.TheVariants as items
use Rattle.snl_grammar.specs.declared.tree.state.StateMember.{StateMember}
use Rattle.snl_grammar.specs.declared.tree.state.StateMember.TheVariants as members
use Rattle.snl_walk.specs.declared.rules.Finding.{Finding}
use Rattle.snl_codes.specs.Codes.{is_rule_code}
use Rattle.snl_walk.specs.Options.{letters_in, letters_in_member}
use Rattle.snl_codes.specs.declared.code.Code.{Code}
use Rattle.snl_codes.specs.declared.code.Code.TheVariants.{W04}
use Rattle.snl_item_check.specs.declared.findings.ItemFault.{ItemFault}
use Rattle.snl_item_check.specs.ItemFaults.{fault_of}
use Rattle.snl_item_check.specs.Options.{found_at_letter, is_known, letter_fault, program_letters, state_letters, unknown_in_member, unknown_letters, unknown_options}

abbrev Differ : {A : Type 0} → A → A → Type 0
Differ a b = a ≢ b

-- ---- rules

same_finding : (f g : Finding) → fault_of f ≡ fault_of g → f ≡ g
same_finding f g e =
    ap₂ (λ (t : ℕ) (c : Code). let k : Finding = record { token = t; code = c } in k) (ap (λ (k : ItemFault). k.token) e) (ap (λ (k : ItemFault). k.code) e)

rules_apart : (fs : List Finding) → AllPairs (λ a b. a ≢ b) fs → EachTwo Differ (map fault_of fs)
rules_apart fs h = two_map Differ fault_of fs (two_weaker Differ (λ f g. fault_of f ≢ fault_of g) (λ f g ne e. ne (same_finding f g e)) fs (two_from_pairs Differ fs h))

abbrev IsOther : ItemFault → Type 0
IsOther f = f.code ≢ W04

abbrev HasRuleCode : Finding → Type 0
HasRuleCode f = is_rule_code f.code ≡ true

rules_other : (fs : List Finding) → Each HasRuleCode fs → Each IsOther (map fault_of fs)
rules_other [] h = tt
rules_other (f ∷ fs) h = ((λ same. false≢true (sym (ap is_rule_code same) ∙ h.0)), rules_other fs h.1)

-- ---- the letters of options

abbrev AtLetters : ℕ → ℕ → ItemFault → Type 0
AtLetters token n f = (f.token ≡ token) × (n ≤ f.byte) × (f.code ≡ W04)

module _ (known : List ℕ) (token : ℕ) where
  abbrev from : ℕ → List ℕ → List ItemFault
  from n letters = flat_map (found_at_letter known token) (enumerate_from n letters)

  at_letters : (n : ℕ) (letters : List ℕ) → Each (AtLetters token n) (from n letters)
  at_letters n [] = tt
  at_letters n (x ∷ xs) = by (is_known known x) (each_weaker (AtLetters token (n + 1)) (AtLetters token n) (λ f h. (h.0, omega (arith, h.1), h.2)) (from (n + 1) xs) (at_letters (n + 1) xs))
    where
      by : (b : Bool) → Each (AtLetters token n) (from (n + 1) xs) → Each (AtLetters token n) (cond b [] (letter_fault token n ∷ []) ++ from (n + 1) xs)
      by true rest = rest
      by false rest = ((refl, omega arith, refl), rest)

  letters_apart : (n : ℕ) (letters : List ℕ) → EachTwo Differ (from n letters)
  letters_apart n [] = tt
  letters_apart n (x ∷ xs) = by (is_known known x) (letters_apart (n + 1) xs)
    where
      by : (b : Bool) → EachTwo Differ (from (n + 1) xs) → EachTwo Differ (cond b [] (letter_fault token n ∷ []) ++ from (n + 1) xs)
      by true rest = rest
      by false rest =
          (each_weaker (AtLetters token (n + 1)) (λ f. letter_fault token n ≢ f) (λ f h e. let byte : n ≡ f.byte = ap (λ (k : ItemFault). k.byte) e in omega (arith, byte, h.1)) (from (n + 1) xs) (at_letters (n + 1) xs), rest)

module _ (bytes : ℕ → List ℕ) where
  abbrev in_members : List StateMember → List ItemFault
  in_members ms = flat_map (unknown_in_member bytes) ms

  abbrev letters : List StateMember → List ℕ
  letters ms = flat_map letters_in_member ms

  abbrev pub IsLetter : (ℕ → Type 0) → ItemFault → Type 0
  IsLetter P f = P f.token × (f.code ≡ W04)

  -- what holds of the tokens of letters holds of those of the findings at them
  line_stands : (P : ℕ → Type 0) (known : List ℕ) (token : ℕ) → P token → Each (IsLetter P) (from known token 0 (bytes token))
  line_stands P known token h = each_weaker (AtLetters token 0) (IsLetter P) (λ f at. (subst P (sym at.0) h, at.2)) (from known token 0 (bytes token)) (at_letters known token 0 (bytes token))

  members_stand : (P : ℕ → Type 0) (ms : List StateMember) → Each P (letters ms) → Each (IsLetter P) (in_members ms)
  members_stand P [] h = tt
  members_stand P (members.OptionLine line ∷ ms) h =
      each_append (IsLetter P) (unknown_letters bytes state_letters line) (in_members ms) (line_stands P state_letters line.letters h.0) (members_stand P ms h.1)
  members_stand P (members.Declaration d ∷ ms) h = members_stand P ms h
  members_stand P (members.Foreign names ∷ ms) h = members_stand P ms h
  members_stand P (members.Clause clause ∷ ms) h = members_stand P ms h
  members_stand P (members.Empty ∷ ms) h = members_stand P ms h
  members_stand P (members.CBlock n ∷ ms) h = members_stand P ms h
  members_stand P (members.Entry block ∷ ms) h = members_stand P ms h
  members_stand P (members.Exit block ∷ ms) h = members_stand P ms h
  members_stand P (members.When t ∷ ms) h = members_stand P ms h

  members_apart : (ms : List StateMember) → EachTwo (λ a b. a < b) (letters ms) → EachTwo Differ (in_members ms)
  members_apart [] h = tt
  members_apart (members.OptionLine line ∷ ms) h =
      two_across Differ (unknown_letters bytes state_letters line) (in_members ms) (letters_apart state_letters line.letters 0 (bytes line.letters)) (members_apart ms h.1)
      (across Differ (IsLetter (λ n. n ≡ line.letters)) (IsLetter (λ n. line.letters < n))
      (λ f g here later e. let same : f.token ≡ g.token = ap (λ (k : ItemFault). k.token) e in omega (arith, here.0, later.0, same))
      (unknown_letters bytes state_letters line) (in_members ms) (line_stands (λ n. n ≡ line.letters) state_letters line.letters refl) (members_stand (λ n. line.letters < n) ms h.0))
  members_apart (members.Declaration d ∷ ms) h = members_apart ms h
  members_apart (members.Foreign names ∷ ms) h = members_apart ms h
  members_apart (members.Clause clause ∷ ms) h = members_apart ms h
  members_apart (members.Empty ∷ ms) h = members_apart ms h
  members_apart (members.CBlock n ∷ ms) h = members_apart ms h
  members_apart (members.Entry block ∷ ms) h = members_apart ms h
  members_apart (members.Exit block ∷ ms) h = members_apart ms h
  members_apart (members.When t ∷ ms) h = members_apart ms h

  pub options_stand : (P : ℕ → Type 0) (in_set : Bool) (t : Item) → Each P (letters_in t) → Each (IsLetter P) (unknown_options bytes in_set t)
  options_stand P true (items.OptionLine line) h = tt
  options_stand P false (items.OptionLine line) h = line_stands P program_letters line.letters h.0
  options_stand P in_set (items.StateBlock name ms) h = members_stand P ms h
  options_stand P in_set t h = tt

  options_apart : (in_set : Bool) (t : Item) → EachTwo (λ a b. a < b) (letters_in t) → EachTwo Differ (unknown_options bytes in_set t)
  options_apart true (items.OptionLine line) h = tt
  options_apart false (items.OptionLine line) h = letters_apart program_letters line.letters 0 (bytes line.letters)
  options_apart in_set (items.StateBlock name ms) h = members_apart ms h
  options_apart in_set t h = tt

  -- ---- all

  pub every : (xs : List ℕ) → Each (λ n. Unit {0}) xs
  every [] = tt
  every (x ∷ xs) = (tt, every xs)

  pub faults_apart : (in_set : Bool) (t : Item) (fs : List Finding) → All HasRuleCode fs → AllPairs (λ a b. a ≢ b) fs → AllPairs (λ a b. a < b) (letters_in t) →
      AllPairs (λ a b. a ≢ b) (map fault_of fs ++ unknown_options bytes in_set t)
  faults_apart in_set t fs ruled differ rise =
      let os = unknown_options bytes in_set t in
      pairs_from_two Differ (map fault_of fs ++ os)
      (two_across Differ (map fault_of fs) os (rules_apart fs differ) (options_apart in_set t (two_from_pairs (λ a b. a < b) (letters_in t) rise))
      (across Differ IsOther (IsLetter (λ n. Unit {0})) (λ f g other letter e. other (ap (λ (k : ItemFault). k.code) e ∙ letter.1)) (map fault_of fs) os
      (rules_other fs (recursion_from_All HasRuleCode fs ruled)) (options_stand (λ n. Unit {0}) in_set t (every (letters_in t)))))

  pub faults_stand : (count : ℕ) (in_set : Bool) (t : Item) (fs : List Finding) → All (λ f. f.token < count) fs → All (λ n. n < count) (letters_in t) →
      All (λ f. f.token < count) (map fault_of fs ++ unknown_options bytes in_set t)
  faults_stand count in_set t fs found letters =
      let os = unknown_options bytes in_set t in
      All-from_recursion (λ (f : ItemFault). f.token < count) (map fault_of fs ++ os)
      (each_append (λ (f : ItemFault). f.token < count) (map fault_of fs) os
      (each_map (λ (f : ItemFault). f.token < count) fault_of fs (recursion_from_All (λ (f : Finding). f.token < count) fs found))
      (each_weaker (IsLetter (λ n. n < count)) (λ f. f.token < count) (λ f h. h.0) os (options_stand (λ n. n < count) in_set t (recursion_from_All (λ n. n < count) (letters_in t) letters))))
