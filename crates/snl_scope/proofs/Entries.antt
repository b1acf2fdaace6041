-- Lemmas on entries: what one more is to the tables that follow them.
use Rattle.std.proofs.Common.{◌≡◌, ℕ, Bool, true, false, cond, List, [], ◌∷◌, ◌++◌, length, map, get_or, Option, None, Some, is_some, refl, sym, ap, ◌∙◌, append_assoc, true≢false, if◌then◌else◌}
use Rattle.std.proofs.lemmas.List.{append-nil, map-append}
use Rattle.std.proofs.lemmas.List.Quantifiers.{position-Some}
use Rattle.std.proofs.lemmas.Slice.Eq.{bytes_eq-Decides}
use Rattle.std.specs.List.{position}
use Rattle.std.specs.Map.{lookup}
use Rattle.std.specs.Option.{option_and_then, option_or}
use Rattle.std.specs.Str.{bytes_eq}
use Rattle.snl_facts.specs.Options.{none_or, or_none}
use Rattle.snl_facts.specs.Positions.{position_push}
use Rattle.snl_scope.specs.declared.facts.LinkFault.{LinkFault}
use Rattle.snl_scope.specs.declared.names.first_numbers.FirstNumbers.{FirstNumbers}
use Rattle.snl_scope.specs.declared.names.namespaces.QualifiedName.{QualifiedName}
use Rattle.snl_scope.specs.declared.names.namespaces.Namespace.{Namespace}
use Rattle.snl_scope.specs.declared.names.name_tables.Symbol.{Symbol}
use Rattle.snl_scope.specs.contracts.names.namespaces.QualifiedNamePartialEq.TheImpl as key_eq
use Rattle.snl_scope.specs.Below.{all_below}
use Rattle.snl_scope.specs.Flags.{is_first_at}
use Rattle.snl_scope.specs.KeyLaws.{key_true}
use Rattle.snl_scope.specs.Names.{Entry, has_name, number_in, repetition, repetition_at, repetitions}
use Rattle.snl_scope.specs.NameTables.{AreSame, Follows, IsPut, number_by, number_under, same_key, symbol_of}
use Rattle.snl_scope.proofs.Equality.{key_is, key_same, name_same, name_true}
use Rattle.snl_scope.proofs.FirstEntries.{firsts-new, firsts-seen}

-- the findings with one more entry
repetitions-push : (earlier es : List Entry) (e : Entry) → repetitions earlier (es ++ e ∷ []) ≡ repetitions earlier es ++ repetition (earlier ++ es) e
repetitions-push earlier [] e = append-nil (repetition earlier e) ∙ ap (λ l. repetition l e) (sym (append-nil earlier))
repetitions-push earlier (x ∷ xs) e =
    ap (λ l. repetition earlier x ++ l) (repetitions-push (earlier ++ x ∷ []) xs e)
    ∙ ap (λ l. repetition earlier x ++ (repetitions (earlier ++ x ∷ []) xs ++ repetition l e)) (append_assoc earlier (x ∷ []) xs)
    ∙ sym (append_assoc (repetition earlier x) (repetitions (earlier ++ x ∷ []) xs) (repetition (earlier ++ x ∷ xs) e))

some-or : {A : Type 0} (o p : Option A) → is_some o ≡ true → option_or o p ≡ o
some-or None p h = absurd (true≢false (sym h))
some-or (Some x) p h = refl

abbrev key : Namespace → ℕ → QualifiedName
key s n = record { namespace = s; name = n }

under_same : (first first' : FirstNumbers) → AreSame first first' → (s : Namespace) (o : Option ℕ) → option_and_then (number_under first' s) o ≡ option_and_then (number_under first s) o
under_same first first' same s None = refl
under_same first first' same s (Some n) = same.under s n

module _ (names : List (List ℕ)) (first : FirstNumbers) (symbols : List Symbol) (faults : List LinkFault) (es : List Entry) (f : Follows names first symbols faults es) where
  module _ (e : Entry) (k : ℕ) (numbered : position (bytes_eq e.name) names ≡ Some k) where
    -- what the tables have for the entry's name
    here : number_by names first e.namespace e.name ≡ number_under first e.namespace k
    here = ap (option_and_then (number_under first e.namespace)) numbered

    known_here : (symbols' : List Symbol) → symbols' ≡ symbols ++ symbol_of e ∷ [] → symbols' ≡ map symbol_of (es ++ e ∷ [])
    known_here symbols' h = h ∙ ap (λ l. l ++ symbol_of e ∷ []) f.tabled.known ∙ sym (map-append symbol_of es (e ∷ []))

    -- the entry's name is there: the tables stay, and a finding is added
    module _ (there : is_some (number_under first e.namespace k) ≡ true) where
      seen : is_some (number_in es e.namespace e.name) ≡ true
      seen = ap is_some (sym (f.tabled.found e.namespace e.name)) ∙ ap is_some here ∙ there

      stays : (s : Namespace) (name : List ℕ) → number_in es s name ≡ number_in (es ++ e ∷ []) s name
      stays s name = sym (position_push (has_name s name) es e ∙ by (has_name s name e) refl)
        where
          by : (b : Bool) → has_name s name e ≡ b → option_or (number_in es s name) (cond (has_name s name e) (Some (length es)) None) ≡ number_in es s name
          by true h =
              let p = name_true s name e h in
              some-or (number_in es s name) (cond (has_name s name e) (Some (length es)) None)
              (ap (λ t. is_some (number_in es t name)) p.0 ∙ ap (λ n. is_some (number_in es e.namespace n)) p.1 ∙ seen)
          by false h = ap (λ b. option_or (number_in es s name) (cond b (Some (length es)) None)) h ∙ or_none (number_in es s name)

      pub follows_again : (first' : FirstNumbers) → AreSame first first' → first'.numbers.items ≡ first.numbers.items
          → (symbols' : List Symbol) (faults' : List LinkFault) → symbols' ≡ symbols ++ symbol_of e ∷ [] → faults' ≡ faults ++ repetition_at e
          → Follows names first' symbols' faults' (es ++ e ∷ [])
      follows_again first' same numbers symbols' faults' h g = record {
        tabled = record {
          found = λ s name. under_same first first' same s (position (bytes_eq name) names) ∙ f.tabled.found s name ∙ stays s name;
          inner = λ s n t p. same.under s n ∙ f.tabled.inner s n t (sym (same.inner n) ∙ p);
          known = known_here symbols' h;
        };
        again = g ∙ ap (λ l. l ++ repetition_at e) f.again
            ∙ sym (repetitions-push [] es e ∙ ap (λ b. repetitions [] es ++ (if b then repetition_at e else [])) seen);
        firsts = numbers ∙ f.firsts ∙ sym (firsts-seen es e seen);
      }

    -- it is new: the tables have it, and there is no finding
    module _ (first' : FirstNumbers) (number : ℕ) (absent : is_some (number_under first e.namespace k) ≡ false)
        (is : IsPut first first' (key e.namespace k) number)
        (listed : first'.numbers.items ≡ first.numbers.items ++ number ∷ []) (counted : number ≡ length es) where
      unseen : is_some (number_in es e.namespace e.name) ≡ false
      unseen = ap is_some (sym (f.tabled.found e.namespace e.name)) ∙ ap is_some here ∙ absent

      -- a name with the entry's number is the entry's
      one_name : (name : List ℕ) → position (bytes_eq name) names ≡ Some k → name ≡ e.name
      one_name name h =
          (bytes_eq-Decides name (get_or names k [])).0 (position-Some (bytes_eq name) names k [] h).1
          ∙ sym ((bytes_eq-Decides e.name (get_or names k [])).0 (position-Some (bytes_eq e.name) names k [] numbered).1)

      found : (s : Namespace) (name : List ℕ) → number_by names first' s name ≡ number_in (es ++ e ∷ []) s name
      found s name = by (position (bytes_eq name) names) refl ∙ sym (position_push (has_name s name) es e)
        where
          before : (o : Option ℕ) → position (bytes_eq name) names ≡ o → number_in es s name ≡ option_and_then (number_under first s) o
          before o h = sym (f.tabled.found s name) ∙ ap (option_and_then (number_under first s)) h

          other : has_name s name e ≡ false → option_or (number_in es s name) (cond (has_name s name e) (Some (length es)) None) ≡ number_in es s name
          other h = ap (λ b. option_or (number_in es s name) (cond b (Some (length es)) None)) h ∙ or_none (number_in es s name)

          by : (o : Option ℕ) → position (bytes_eq name) names ≡ o
              → option_and_then (number_under first' s) o ≡ option_or (number_in es s name) (cond (has_name s name e) (Some (length es)) None)
          by None h = no_number (has_name s name e) refl
            where
              no_number : (b : Bool) → has_name s name e ≡ b → None ≡ option_or (number_in es s name) (cond (has_name s name e) (Some (length es)) None)
              no_number true g =
                  let p = name_true s name e g in
                  let clash : None ≡ Some k = sym h ∙ ap (λ n. position (bytes_eq n) names) p.1 ∙ numbered in absurd (cc)
              no_number false g = sym (other g ∙ before None h)
          by (Some j) h = is.under s j ∙ compared (same_key (key e.namespace k) (key s j)) refl
            where
              compared : (b : Bool) → same_key (key e.namespace k) (key s j) ≡ b
                  → cond (same_key (key e.namespace k) (key s j)) (Some number) (number_under first s j)
                  ≡ option_or (number_in es s name) (cond (has_name s name e) (Some (length es)) None)
              compared true g =
                  let p = key_true (key e.namespace k) (key s j) g in
                  let n = one_name name (h ∙ ap Some (sym p.1)) in
                  let same : has_name s name e ≡ true = ap (λ t. has_name t name e) (sym p.0) ∙ ap (λ m. has_name e.namespace m e) n ∙ name_same e in
                  let gone : is_some (number_in es s name) ≡ false = ap (λ t. is_some (number_in es t name)) (sym p.0) ∙ ap (λ m. is_some (number_in es e.namespace m)) n ∙ unseen in
                  ap (λ b. cond b (Some number) (number_under first s j)) g ∙ ap Some counted
                  ∙ sym (none_or (number_in es s name) (cond (has_name s name e) (Some (length es)) None) gone ∙ ap (λ b. cond b (Some (length es)) None) same)
              compared false g =
                  ap (λ b. cond b (Some number) (number_under first s j)) g ∙ sym (before (Some j) h) ∙ sym (differs (has_name s name e) refl)
                where
                  differs : (b : Bool) → has_name s name e ≡ b → option_or (number_in es s name) (cond (has_name s name e) (Some (length es)) None) ≡ number_in es s name
                  differs true t =
                      let p = name_true s name e t in
                      let q : Some j ≡ Some k = sym h ∙ ap (λ n. position (bytes_eq n) names) p.1 ∙ numbered in
                      let m : j ≡ k = cc in
                      absurd (true≢false (sym (key_same (key s j)) ∙ ap (λ n. same_key (key s n) (key s j)) m ∙ ap (λ t. same_key (key t k) (key s j)) p.0 ∙ g))
                  differs false t = other t

      pub follows_new : (symbols' : List Symbol) → symbols' ≡ symbols ++ symbol_of e ∷ [] → Follows names first' symbols' faults (es ++ e ∷ [])
      follows_new symbols' h = record {
        tabled = record { found = found; inner = is.inner f.tabled.inner; known = known_here symbols' h };
        again = f.again ∙ sym (repetitions-push [] es e ∙ ap (λ b. repetitions [] es ++ (if b then repetition_at e else [])) unseen ∙ append-nil (repetitions [] es));
        firsts = listed ∙ ap (λ l. l ++ number ∷ []) f.firsts ∙ ap (λ n. all_below (is_first_at es) (length es) ++ n ∷ []) counted ∙ sym (firsts-new es e unseen);
      }

-- the table is read by the test that the code derives
lookup-same : (p q : QualifiedName → Bool) (entries : List (QualifiedName × ℕ)) → ((k : QualifiedName) → p k ≡ q k) → lookup p entries ≡ lookup q entries
lookup-same p q [] h = refl
lookup-same p q (e ∷ es) h = ap (λ b. cond b (Some e.1) (lookup p es)) (h e.0) ∙ ap (λ o. cond (q e.0) (Some e.1) o) (lookup-same p q es h)

pub lookup_is : (k : QualifiedName) (entries : List (QualifiedName × ℕ)) → lookup (key_eq.eq-value.it k) entries ≡ lookup (same_key k) entries
lookup_is k entries = lookup-same (key_eq.eq-value.it k) (same_key k) entries (key_is k)

pub put_is : (k : QualifiedName) (number : ℕ) (before after : List (QualifiedName × ℕ))
    → ((q : QualifiedName) → lookup (key_eq.eq-value.it q) after ≡ cond (key_eq.eq-value.it k q) (Some number) (lookup (key_eq.eq-value.it q) before))
    → (q : QualifiedName) → lookup (same_key q) after ≡ cond (same_key k q) (Some number) (lookup (same_key q) before)
put_is k number before after h q =
    sym (lookup_is q after) ∙ h q ∙ ap (λ b. cond b (Some number) (lookup (key_eq.eq-value.it q) before)) (key_is k q)
    ∙ ap (λ o. cond (same_key k q) (Some number) o) (lookup_is q before)
