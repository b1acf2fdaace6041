-- What is found by the links of a text's items: no offset and code occur twice in it, nor in it and
-- in what is found in items.
use Rattle.std.proofs.Common.{◌≡◌, ◌≢◌, ◌⊎◌, ℕ, ◌<◌, true, All, List, [], length, slice_get, Option, None, Some, IfSome, option_map, inl, inr, refl, sym, ap, ap₂, subst, ◌∙◌, arith}
use Rattle.std.specs.Prelude.{◌&&◌, option_and_then}
use Rattle.std.specs.Option.{option_map_or}
use Rattle.std.specs.List.{AllByRecursion as Each, Contains}
use Rattle.std.proofs.lemmas.Bool.{false≢true}
use Rattle.std.proofs.lemmas.List.Elements.{recursion_from_All}
use Rattle.snl_lex.specs.declared.piece.Piece.{Piece}
use Rattle.snl_lex.specs.Pieces.{LiesIn}
use Rattle.snl_grammar.specs.declared.tree.item.Item.{Item}
use Rattle.snl_grammar.specs.Parsing.{kinds_in}
use Rattle.snl_grammar.specs.Reading.Items.{item_of}
use Rattle.snl_codes.specs.declared.code.Code.{Code}
use Rattle.snl_codes.specs.declared.code.Code.TheVariants.{E05, E06, E07}
use Rattle.snl_scope.specs.declared.facts.LinkFault.{LinkFault}
use Rattle.snl_summary.specs.declared.summary.Outline.{Outline}
use Rattle.snl_scope.specs.FaultPlaces.{IsAtItem, IsMissing, IsPlaced, IsPlacedBy, SpeaksOfTokens}
use Rattle.snl_scope.specs.Linked as links
use Rattle.snl_scope.specs.LinkedItems.{LinkedItems}
use Rattle.snl_scope.specs.Names.{has_own_scope}
use Rattle.snl_scope.specs.Once.{AreFoundOnce}
use Rattle.snl_summary.specs.RisingTokens.{declared_tokens}
use Rattle.snl_summary.specs.Summaries.{outline_in}
use Rattle.snl_codes.specs.Codes.{is_item_code, is_link_code}
use Rattle.snl_item_check.specs.Items.{outline_of_item, tokens_in}
use Rattle.snl_kept.specs.declared.found.findings.Finding.{Finding}
use Rattle.snl_kept.specs.Linked.{finding_at, linked_faults, linked_of, outlines_of, linked_finding, token_of}
use Rattle.snl_kept.specs.OnceFound.{DifferInPlace}
use Rattle.snl_kept.specs.Program.{ProgramItem}
use Rattle.snl_kept.proofs.OnceItems.{IsMade, there}
use Rattle.snl_kept.proofs.OnceTokens.{AreApart, IsIn, one_item, one_token, same_item}
use Rattle.snl_kept.proofs.OnceTwo.{two_with}
use Rattle.std.proofs.lemmas.Option.{slice_get-map}
use Rattle.snl_facts.specs.Each.{each_weaker, each_got, each_map, two_map, two_from_pairs, EachTwo}
use Rattle.snl_kept.specs.TokenLaws.{InARow}

one_fault : (a b : LinkFault) → a.item ≡ b.item → a.token ≡ b.token → a.code ≡ b.code → a ≡ b
one_fault a b h k m =
    let item : a ≡ record { item = b.item; token = a.token; code = a.code } = ap (λ n. record { item = n; token = a.token; code = a.code }) h in
    let token : a ≡ record { item = b.item; token = b.token; code = a.code } = item ∙ ap (λ n. record { item = b.item; token = n; code = a.code }) k in
    token ∙ ap (λ c. record { item = b.item; token = b.token; code = c }) m

-- What the laws of the links say of an item that is read, and of all.
pub record LinkLaws : Type 0 where
  pub tree : (text : List ℕ) (tokens : List Piece) (t : Item) → 0 < length tokens → item_of (kinds_in text tokens) ≡ Some t → SpeaksOfTokens (length tokens) (outline_in text tokens (Some t))
  pub faulty : (text : List ℕ) (tokens : List Piece) → 0 < length tokens → SpeaksOfTokens (length tokens) (outline_in text tokens None)
  pub places : (l : LinkedItems) (counts : ℕ → ℕ) → ((i : ℕ) → IfSome (slice_get l.outlines i) (SpeaksOfTokens (counts i))) → All (IsPlaced counts l.outlines) (links.faults_of l)

-- the one code that links and items share
only_shared : (c : Code) → (is_link_code c && is_item_code c) ≡ true → c ≡ E07
only_shared E07 h = refl
only_shared _ h = absurd (false≢true h)

pub shared_code : (c : Code) → is_link_code c ≡ true → is_item_code c ≡ true → c ≡ E07
shared_code c h k = only_shared c (ap₂ (λ a b. a && b) h k)

module _ (text : List ℕ) (xs : List ProgramItem) (laws : LinkLaws) (apart : AreApart text xs) where
  abbrev ss : List Outline
  ss = outlines_of text xs

  abbrev counts : ℕ → ℕ
  counts i = length (tokens_in xs i)

  speaks : (i : ℕ) → IfSome (slice_get ss i) (SpeaksOfTokens (counts i))
  speaks i = subst (λ o. IfSome o (SpeaksOfTokens (counts i))) (sym (slice_get-map (outline_of_item text) xs i)) (by (slice_get xs i) refl)
    where
      of : (x : ProgramItem) → InARow text x.tokens → ((t : Item) → x.tree ≡ Some t → item_of (kinds_in text x.tokens) ≡ Some t) → (o : Option Item) → x.tree ≡ o → SpeaksOfTokens (length x.tokens) (outline_in text x.tokens o)
      of x row read None is = laws.faulty text x.tokens row.some
      of x row read (Some t) is = laws.tree text x.tokens t row.some (read t is)

      by : (o : Option ProgramItem) → slice_get xs i ≡ o → IfSome (option_map (outline_of_item text) o) (SpeaksOfTokens (counts i))
      by None at = tt
      by (Some x) at =
          let count : counts i ≡ length x.tokens = ap (λ o. length (option_map_or (λ (y : ProgramItem). y.tokens) o [])) at in
          subst (λ n. SpeaksOfTokens n (outline_of_item text x)) (sym count)
          (of x (each_got (λ x. InARow text x.tokens) xs i x apart.each at) (each_got (λ x. (t : Item) → x.tree ≡ Some t → item_of (kinds_in text x.tokens) ≡ Some t) xs i x apart.read at) x.tree refl)

  abbrev fs : List LinkFault
  fs = links.faults_of (linked_of text xs)

  each_placed : Each (IsPlaced counts ss) fs
  each_placed = recursion_from_All (IsPlaced counts ss) fs (laws.places (linked_of text xs) counts speaks)

  -- A finding of the links at a token of an item.
  record AtToken (f : LinkFault) : Type 0 where
    x : ProgramItem
    p : Piece
    item : slice_get xs f.item ≡ Some x
    token : slice_get x.tokens f.token ≡ Some p
    says : IsAtItem (counts f.item) (outline_of_item text x) f

  where_is : (f : LinkFault) → IsPlaced counts ss f → AtToken f ⊎ IsMissing ss f
  where_is f h = by (slice_get xs f.item) refl (subst (IsPlacedBy counts ss f) (slice_get-map (outline_of_item text) xs f.item) h)
    where
      by : (o : Option ProgramItem) → slice_get xs f.item ≡ o → IsPlacedBy counts ss f (option_map (outline_of_item text) o) → AtToken f ⊎ IsMissing ss f
      by None at g = inr g
      by (Some x) at g =
          let count : counts f.item ≡ length x.tokens = ap (λ o. length (option_map_or (λ (y : ProgramItem). y.tokens) o [])) at in
          let here = there x.tokens f.token (omega (arith, g.token, count)) in
          inl (record { x = x; p = here.0; item = at; token = here.1; says = g })

  code_is : (f : LinkFault) → (linked_finding xs f).code ≡ f.code
  code_is f = by (token_of xs f.item f.token)
    where
      by : (o : Option Piece) → (finding_at f.code o).code ≡ f.code
      by None = refl
      by (Some p) = refl

  offset_is : (f : LinkFault) → (a : AtToken f) → (linked_finding xs f).offset ≡ a.p.start
  offset_is f a = ap (λ o. (finding_at f.code (option_and_then (λ (x : ProgramItem). slice_get x.tokens f.token) o)).offset) a.item ∙ ap (λ o. (finding_at f.code o).offset) a.token

  is_in : (f : LinkFault) → (a : AtToken f) → (o : ℕ) → o ≡ a.p.start → IsIn xs f.item f.token o
  is_in f a o e =
      let row = each_got (λ x. InARow text x.tokens) xs f.item a.x apart.each a.item in
      let some = (each_got (LiesIn text) a.x.tokens f.token a.p row.lie a.token).0 in
      record { x = a.x; p = a.p; item = a.item; token = a.token; low = omega (arith, e); high = omega (arith, e, some) }

  outline_at : (f : LinkFault) → (a : AtToken f) → slice_get ss f.item ≡ Some (outline_of_item text a.x)
  outline_at f a = slice_get-map (outline_of_item text) xs f.item ∙ ap (option_map (outline_of_item text)) a.item

  -- what is missing has a code that no finding at a token has
  not_missing : (f g : LinkFault) → AtToken f → IsMissing ss g → f.code ≡ g.code → ⊥
  not_missing f g a b code = elim b.code [
    | inl header ↦ false≢true (sym (header.1 f.item (outline_of_item text a.x) (outline_at f a)) ∙ a.says.program (code ∙ header.0))
    | inr states ↦ false≢true (sym (states.1 f.item (outline_of_item text a.x) (outline_at f a)) ∙ a.says.set (code ∙ states.0))
  ]

  differ : (f g : LinkFault) → IsPlaced counts ss f → IsPlaced counts ss g → f ≢ g → DifferInPlace (linked_finding xs f) (linked_finding xs g)
  differ f g h k other offset same = by (where_is f h) (where_is g k)
    where
      code : f.code ≡ g.code
      code = sym (code_is f) ∙ same ∙ code_is g

      by : AtToken f ⊎ IsMissing ss f → AtToken g ⊎ IsMissing ss g → ⊥
      by (inl a) (inl b) =
          let there = is_in f a a.p.start refl in
          let here = is_in g b a.p.start (sym (offset_is f a) ∙ offset ∙ offset_is g b) in
          other (one_fault f g (one_item text xs apart f.item g.item f.token g.token a.p.start there here) (one_token text xs apart f.item g.item f.token g.token a.p.start there here) code)
      by (inl a) (inr b) = not_missing f g a b code
      by (inr a) (inl b) = not_missing g f b a (sym code)
      by (inr a) (inr b) = other (one_fault f g (a.item ∙ sym b.item) (a.token ∙ sym b.token) code)

  pub linked_once : AreFoundOnce fs → EachTwo DifferInPlace (linked_faults text xs)
  linked_once once =
      two_map DifferInPlace (linked_finding xs) fs
      (two_with (λ a b. a ≢ b) (IsPlaced counts ss) (λ f g. DifferInPlace (linked_finding xs f) (linked_finding xs g)) (λ f g h k other. differ f g h k other) fs each_placed (two_from_pairs (λ a b. a ≢ b) fs once))

  -- ---- their codes, and what is found in items

  missing_code : (f : LinkFault) → IsMissing ss f → is_link_code f.code ≡ true
  missing_code f a = elim a.code [ inl header ↦ ap is_link_code header.0 | inr states ↦ ap is_link_code states.0 ]

  link_code : (f : LinkFault) → IsPlaced counts ss f → is_link_code f.code ≡ true
  link_code f h = elim (where_is f h) [ inl a ↦ a.says.code | inr a ↦ missing_code f a ]

  not_seven : (f : LinkFault) → IsMissing ss f → f.code ≡ E07 → ⊥
  not_seven f a e = elim a.code [ inl header ↦ let other : E05 ≡ E07 = sym header.0 ∙ e in cc | inr states ↦ let other : E06 ≡ E07 = sym states.0 ∙ e in cc ]

  -- E07 of the links is at another token than that of an item
  apart_from_made : (f : LinkFault) → IsPlaced counts ss f → (g : Finding) → IsMade text xs g → DifferInPlace (linked_finding xs f) g
  unfolding is_in
  apart_from_made f h g made offset same =
      let seven : f.code ≡ E07 = shared_code f.code (link_code f h) (ap is_item_code (sym (code_is f) ∙ same) ∙ made.made.code) in
      by seven (where_is f h)
    where
      by : f.code ≡ E07 → AtToken f ⊎ IsMissing ss f → ⊥
      by seven (inr a) = not_seven f a seven
      by seven (inl a) =
          let at = offset_is f a in
          let m = made.made in
          let there = is_in f a a.p.start refl in
          let here : IsIn xs made.i m.at.number a.p.start = record { x = made.x; p = m.at.p; item = made.item; token = m.at.token; low = omega (arith, m.at.low, at, offset); high = omega (arith, m.at.high, at, offset) } in
          let says = a.says.declared seven in
          let item = same_item text xs apart f.item made.i f.token m.at.number a.p.start there here in
          let token = one_token text xs apart f.item made.i f.token m.at.number a.p.start there here in
          m.left (sym same ∙ code_is f ∙ seven) (ap (λ (x : ProgramItem). has_own_scope (outline_of_item text x).role) (sym item) ∙ says.outside)
          (subst (λ n. Contains (declared_tokens (outline_of_item text made.x)) n) token (subst (λ (x : ProgramItem). Contains (declared_tokens (outline_of_item text x)) f.token) item says.declared))

  -- A finding that is one of the links.
  pub record IsOfLinks (f : Finding) : Type 0 where
    pub code : is_link_code f.code ≡ true
    pub from_made : (g : Finding) → IsMade text xs g → DifferInPlace f g

  pub linked_found : Each IsOfLinks (linked_faults text xs)
  linked_found =
      each_map IsOfLinks (linked_finding xs) fs
      (each_weaker (IsPlaced counts ss) (λ f. IsOfLinks (linked_finding xs f)) (λ f h. record { code = ap is_link_code (code_is f) ∙ link_code f h; from_made = apart_from_made f h }) fs each_placed)
