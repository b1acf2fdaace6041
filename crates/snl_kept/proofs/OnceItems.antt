-- What is found at faulty items and what is found in items: no offset and code occur twice in
-- either.
use Rattle.std.proofs.Common.{◌≡◌, ◌≢◌, ℕ, zero, suc, ◌+◌, ◌<◌, ◌≤◌, Bool, true, false, All, List, [], ◌∷◌, length, map, take, drop, slice_get, length-take, Option, None, Some, IfSome, inl, inr, refl, sym, ap, subst, ◌∙◌, arith}
use Rattle.std.specs.List.{AllByRecursion as Each, AllPairs, Contains, cons_option, enumerate_from, filter_map}
use Rattle.std.specs.Option.{option_map}
use Rattle.std.proofs.lemmas.Bool.{cases_lt}
use Rattle.std.proofs.lemmas.List.Elements.{recursion_from_All}
use Rattle.snl_lex.specs.declared.piece.Piece.{Piece}
use Rattle.snl_lex.specs.Pieces.{LiesIn}
use Rattle.snl_grammar.specs.declared.outcome.Parsed.{Parsed}
use Rattle.snl_grammar.specs.declared.outcome.Parsed.TheVariants as parsed
use Rattle.snl_grammar.specs.declared.tree.item.Item.{Item}
use Rattle.snl_grammar.specs.Outcome.{parsed_in}
use Rattle.snl_grammar.specs.Parsing.{kinds_in}
use Rattle.snl_grammar.specs.Reading.Items.{item_of}
use Rattle.snl_codes.specs.declared.code.Code.{Code}
use Rattle.snl_codes.specs.declared.code.Code.TheVariants.{E01, E02, E07}
use Rattle.snl_scope.specs.declared.facts.Fact.{Fact}
use Rattle.snl_summary.specs.declared.summary.Outline.{Outline}
use Rattle.snl_scope.specs.Names.{has_own_scope}
use Rattle.snl_summary.specs.RisingTokens.{declared_tokens}
use Rattle.snl_summary.specs.Summaries.{outline_in}
use Rattle.snl_summary.specs.Summaries.Tokens.{token_bytes, bytes_if}
use Rattle.snl_item_check.specs.declared.findings.ItemFault.{ItemFault}
use Rattle.snl_codes.specs.Codes.{finder_of, is_item_code}
use Rattle.snl_item_check.specs.FaultCodes.{LeavesToLinks}
use Rattle.snl_item_check.specs.ItemFaults.{StandsIn, faults_in}
use Rattle.snl_item_check.specs.Items.{outline_of_item}
use Rattle.snl_item_check.specs.View.{is_in_set, known_of, leads_to}
use Rattle.snl_kept.specs.declared.found.findings.Finding.{Finding}
use Rattle.snl_kept.specs.Checked.{at_own_token, checked_faults, faults_kept, found_in_item}
use Rattle.snl_kept.specs.Checks.{checked_by}
use Rattle.snl_kept.specs.Faults.{at_token, fault_at, fault_in, faults_of}
use Rattle.snl_kept.specs.Linked.{finding_at, outlines_of}
use Rattle.snl_kept.specs.OnceFound.{DifferInPlace}
use Rattle.snl_kept.specs.Program.{ProgramItem}
use Rattle.snl_kept.proofs.Families.{IsOf, family_of, of_parser}
use Rattle.snl_kept.proofs.OnceTokens.{AreApart}
use Rattle.snl_kept.proofs.OnceTwo.{two_flat, two_got, two_numbered, two_with}
use Rattle.snl_facts.specs.Each.{each_weaker, each_both, each_got, each_map, two_map, two_from_pairs, each_flat, numbered, each_numbered, EachTwo}
use Rattle.snl_kept.specs.TokenLaws.{Before, AllBefore, InARow}

-- A finding is at a byte of one of the tokens.
pub record InTokens (tokens : List Piece) (f : Finding) : Type 0 where
  pub number : ℕ
  pub p : Piece
  pub token : slice_get tokens number ≡ Some p
  pub low : p.start ≤ f.offset
  pub high : f.offset < p.start + p.len

-- findings in items, one of which is before the other
pub between : (x y : List Piece) → AllBefore x y → (f g : Finding) → InTokens x f → InTokens y g → DifferInPlace f g
between x y all f g a b offset code =
    let first = each_got (λ p. Before p b.p) x a.number a.p (each_got (λ q. Each (λ p. Before p q) x) y b.number b.p all b.token) a.token in
    omega (arith, first, a.high, b.low, offset)

-- ---- faulty items

abbrev pub IsFault : ProgramItem → Finding → Type 0
IsFault x f = InTokens x.tokens f × IsOf of_parser f

at_some : (tokens : List Piece) → Each (λ p. 1 ≤ p.len) tokens → (code : Code) → family_of (finder_of code) ≡ of_parser → (n : ℕ) (o : Option Piece) → slice_get tokens n ≡ o
    → IfSome (option_map (at_token code) o) (λ f. InTokens tokens f × IsOf of_parser f)
at_some tokens long code is n None at = tt
at_some tokens long code is n (Some p) at =
    let some = each_got (λ p. 1 ≤ p.len) tokens n p long at in
    (record { number = n; p = p; token = at; low = omega arith; high = omega (arith, some) }, is)

fault_here : (tokens : List Piece) → Each (λ p. 1 ≤ p.len) tokens → (result : Parsed) → IfSome (fault_at tokens result) (λ f. InTokens tokens f × IsOf of_parser f)
fault_here tokens long (parsed.Sound tree) = tt
fault_here tokens long (parsed.BadToken at) = at_some tokens long E01 refl at (slice_get tokens at) refl
fault_here tokens long (parsed.NoItem at) = at_some tokens long E02 refl at (slice_get tokens at) refl

-- what at most one finding an item gives
module _ (F : ProgramItem → Option Finding) where
  each_kept : (P : Finding → Type 0) (Q : ProgramItem → Type 0) → ((x : ProgramItem) → Q x → IfSome (F x) P) → (xs : List ProgramItem) → Each Q xs → Each P (filter_map F xs)
  each_kept P Q h [] q = tt
  each_kept P Q h (x ∷ xs) q = by (F x) (h x q.0) (each_kept P Q h xs q.1)
    where
      by : (o : Option Finding) → IfSome o P → Each P (filter_map F xs) → Each P (cons_option o (filter_map F xs))
      by None p rest = rest
      by (Some f) p rest = (p, rest)

  two_kept : (R : Finding → Finding → Type 0) (S : ProgramItem → ProgramItem → Type 0) (K : ProgramItem → Finding → Type 0)
      → ((x y : ProgramItem) → S x y → (f g : Finding) → K x f → K y g → R f g) → (xs : List ProgramItem) → EachTwo S xs → Each (λ x. IfSome (F x) (K x)) xs → EachTwo R (filter_map F xs)
  two_kept R S K h [] two own = tt
  two_kept R S K h (x ∷ xs) two own = by (F x) own.0 (two_kept R S K h xs two.1 own.1)
      (each_kept (λ g. (f : Finding) → K x f → R f g) (λ y. S x y × IfSome (F y) (K y)) (λ y q. further y q.0 (F y) q.1) xs (each_both (S x) (λ y. IfSome (F y) (K y)) xs two.0 own.1))
    where
      further : (y : ProgramItem) → S x y → (o : Option Finding) → IfSome o (K y) → IfSome o (λ g. (f : Finding) → K x f → R f g)
      further y s None k = tt
      further y s (Some g) k = λ f kf. h x y s f g kf k

      by : (o : Option Finding) → IfSome o (K x) → EachTwo R (filter_map F xs) → Each (λ g. (f : Finding) → K x f → R f g) (filter_map F xs) → EachTwo R (cons_option o (filter_map F xs))
      by None k rest later = rest
      by (Some f) k rest later = (each_weaker (λ g. (e : Finding) → K x e → R e g) (R f) (λ g q. q f k) (filter_map F xs) later, rest)

module _ (text : List ℕ) (xs : List ProgramItem) (apart : AreApart text xs) where
  faults_here : Each (λ x. IfSome (fault_in text x) (IsFault x)) xs
  faults_here =
      each_weaker (λ x. InARow text x.tokens) (λ x. IfSome (fault_in text x) (IsFault x))
      (λ x row. fault_here x.tokens (each_weaker (LiesIn text) (λ p. 1 ≤ p.len) (λ p l. l.0) x.tokens row.lie) (parsed_in text x.tokens)) xs apart.each

  pub faults_once : EachTwo DifferInPlace (faults_of text xs)
  faults_once =
      two_kept (fault_in text) DifferInPlace (λ x y. AllBefore x.tokens y.tokens) IsFault (λ x y all f g a b. between x.tokens y.tokens all f g a.0 b.0) xs apart.items faults_here

  code_if : (o : Option Finding) (x : ProgramItem) → IfSome o (IsFault x) → IfSome o (IsOf of_parser)
  code_if None x k = tt
  code_if (Some f) x k = k.1

  pub faults_coded : Each (IsOf of_parser) (faults_of text xs)
  faults_coded = each_kept (fault_in text) (IsOf of_parser) (λ x. IfSome (fault_in text x) (IsFault x)) (λ x k. code_if (fault_in text x) x k) xs faults_here

-- ---- in items

-- What the laws of the checks say of an item that is read.
pub record CheckLaws (text : List ℕ) : Type 0 where
  pub once : (bytes : ℕ → List ℕ) (in_set : Bool) (fact : List ℕ → Option Fact) (target : List ℕ → Bool) (text : List ℕ) (tokens : List Piece) (tree : Item)
      → item_of (kinds_in text tokens) ≡ Some tree → AllPairs (λ a b. a ≢ b) (faults_in bytes tree in_set fact target)
  pub own : (bytes : ℕ → List ℕ) (in_set : Bool) (fact : List ℕ → Option Fact) (target : List ℕ → Bool) (text : List ℕ) (tokens : List Piece) (tree : Item)
      → item_of (kinds_in text tokens) ≡ Some tree → All (λ f. f.token < length tokens) (faults_in bytes tree in_set fact target)
  pub inside : (bytes : ℕ → List ℕ) (tree : Item) (in_set : Bool) (fact : List ℕ → Option Fact) (target : List ℕ → Bool) → All (StandsIn bytes) (faults_in bytes tree in_set fact target)
  pub codes : (bytes : ℕ → List ℕ) (tree : Item) (in_set : Bool) (fact : List ℕ → Option Fact) (target : List ℕ → Bool) → All (λ f. is_item_code f.code ≡ true) (faults_in bytes tree in_set fact target)
  pub left : (bytes : ℕ → List ℕ) (in_set : Bool) (fact : List ℕ → Option Fact) (target : List ℕ → Bool) (text : List ℕ) (tokens : List Piece) (tree : Item)
      → item_of (kinds_in text tokens) ≡ Some tree → All (LeavesToLinks (outline_in text tokens (Some tree))) (faults_in bytes tree in_set fact target)

-- A finding of an item is at a byte of one of its tokens.
record IsAt (tokens : List Piece) (f : ItemFault) : Type 0 where
  p : Piece
  token : slice_get tokens f.token ≡ Some p
  byte : f.byte < p.len

pub there : (tokens : List Piece) (n : ℕ) → n < length tokens → (p : Piece) × (slice_get tokens n ≡ Some p)
there [] n l = absurd (omega (arith, l))
there (p ∷ ps) zero l = (p, refl)
there (p ∷ ps) (suc n) l = there ps n (omega (arith, l))

is_at : (text : List ℕ) (tokens : List Piece) → Each (LiesIn text) tokens → (f : ItemFault) → f.token < length tokens → StandsIn (token_bytes text tokens) f → IsAt tokens f
unfolding token_bytes
is_at text tokens lie f own inside =
    let here = there tokens f.token own in
    let some = (each_got (LiesIn text) tokens f.token here.0 lie here.1).0 in
    let bytes : bytes_if text (slice_get tokens f.token) ≡ take here.0.len (drop here.0.start text) = ap (bytes_if text) here.1 in
    record {
      p = here.0;
      token = here.1;
      byte = elim inside [
        | inl first ↦ omega (arith, first, some)
        | inr within ↦ omega (arith, within, ap length bytes, length-take here.0.len (drop here.0.start text))
      ];
    }

one_fault : (a b : ItemFault) → a.token ≡ b.token → a.byte ≡ b.byte → a.code ≡ b.code → a ≡ b
one_fault a b h k m =
    let token : a ≡ record { token = b.token; byte = a.byte; code = a.code } = ap (λ n. record { token = n; byte = a.byte; code = a.code }) h in
    let byte : a ≡ record { token = b.token; byte = b.byte; code = a.code } = token ∙ ap (λ n. record { token = b.token; byte = n; code = a.code }) k in
    byte ∙ ap (λ c. record { token = b.token; byte = b.byte; code = c }) m

module _ (tokens : List Piece) where
  offset_is : (f : ItemFault) → (at : IsAt tokens f) → (at_own_token tokens f).offset ≡ at.p.start + f.byte
  offset_is f at = ap (λ o. (finding_at f.code o).offset + f.byte) at.token

  code_is : (f : ItemFault) → (at_own_token tokens f).code ≡ f.code
  code_is f = by (slice_get tokens f.token)
    where
      by : (o : Option Piece) → (finding_at f.code o).code ≡ f.code
      by None = refl
      by (Some p) = refl

  in_tokens : (f : ItemFault) → (at : IsAt tokens f) → InTokens tokens (at_own_token tokens f)
  in_tokens f at =
      let offset = offset_is f at in
      record { number = f.token; p = at.p; token = at.token; low = omega (arith, offset); high = omega (arith, offset, at.byte) }

  differ : EachTwo Before tokens → (f g : ItemFault) → IsAt tokens f → IsAt tokens g → f ≢ g → DifferInPlace (at_own_token tokens f) (at_own_token tokens g)
  differ two f g a b other offset code =
      let one = offset_is f a in
      let two_is = offset_is g b in
      elim (cases_lt f.token g.token) [
        | inl l ↦ let first = two_got Before tokens f.token g.token a.p b.p two l a.token b.token in omega (arith, first, a.byte, one, two_is, offset)
        | inr m ↦
            elim (cases_lt g.token f.token) [
              | inl l ↦ let first = two_got Before tokens g.token f.token b.p a.p two l b.token a.token in omega (arith, first, b.byte, one, two_is, offset)
              | inr k ↦
                  let token : f.token ≡ g.token = omega (arith, m, k) in
                  let piece : Some a.p ≡ Some b.p = sym a.token ∙ ap (slice_get tokens) token ∙ b.token in
                  let start : a.p.start ≡ b.p.start = let same : a.p ≡ b.p = cc in ap (λ (p : Piece). p.start) same in
                  let byte : f.byte ≡ g.byte = omega (arith, start, one, two_is, offset) in
                  other (one_fault f g token byte (sym (code_is f) ∙ code ∙ code_is g))
            ]
      ]

-- A finding that is made in an item: where it is, and what code it has.
pub record IsMadeIn (text : List ℕ) (x : ProgramItem) (f : Finding) : Type 0 where
  pub at : InTokens x.tokens f
  pub code : is_item_code f.code ≡ true
  pub left : f.code ≡ E07 → has_own_scope (outline_of_item text x).role ≡ false → Contains (declared_tokens (outline_of_item text x)) at.number → ⊥

module _ (text : List ℕ) (ss : List Outline) (laws : CheckLaws text) where
  item_found : (i : ℕ) (x : ProgramItem) → InARow text x.tokens → ((t : Item) → x.tree ≡ Some t → item_of (kinds_in text x.tokens) ≡ Some t)
      → Each (IsMadeIn text x) (found_in_item text ss (i, x)) × EachTwo DifferInPlace (found_in_item text ss (i, x))
  unfolding in_tokens
  item_found i x row read = by x.tree refl
    where
      tokens : List Piece
      tokens = x.tokens

      by : (o : Option Item) → x.tree ≡ o
          → Each (IsMadeIn text x) (map (at_own_token x.tokens) (faults_kept (option_map (checked_by ss i (token_bytes text x.tokens)) o)))
          × EachTwo DifferInPlace (map (at_own_token x.tokens) (faults_kept (option_map (checked_by ss i (token_bytes text x.tokens)) o)))
      by None is = (tt, tt)
      by (Some t) is =
          let bytes = token_bytes text x.tokens in
          let fs : List ItemFault = faults_in bytes t (is_in_set ss i) (known_of ss i) (leads_to ss i) in
          let own = recursion_from_All (λ (f : ItemFault). f.token < length x.tokens) fs (laws.own bytes (is_in_set ss i) (known_of ss i) (leads_to ss i) text x.tokens t (read t is)) in
          let inside = recursion_from_All (StandsIn bytes) fs (laws.inside bytes t (is_in_set ss i) (known_of ss i) (leads_to ss i)) in
          let codes = recursion_from_All (λ (f : ItemFault). is_item_code f.code ≡ true) fs (laws.codes bytes t (is_in_set ss i) (known_of ss i) (leads_to ss i)) in
          let left = recursion_from_All (LeavesToLinks (outline_in text x.tokens (Some t))) fs (laws.left bytes (is_in_set ss i) (known_of ss i) (leads_to ss i) text x.tokens t (read t is)) in
          let ats : Each (IsAt x.tokens) fs =
          each_weaker (λ (f : ItemFault). (f.token < length x.tokens) × StandsIn bytes f) (IsAt x.tokens) (λ f h. is_at text x.tokens row.lie f h.0 h.1) fs
          (each_both (λ (f : ItemFault). f.token < length x.tokens) (StandsIn bytes) fs own inside) in
          let two = two_from_pairs (λ (a b : ItemFault). a ≢ b) fs (laws.once bytes (is_in_set ss i) (known_of ss i) (leads_to ss i) text x.tokens t (read t is)) in (
            each_map (IsMadeIn text x) (at_own_token x.tokens) fs
                (each_weaker (λ f. IsAt x.tokens f × ((is_item_code f.code ≡ true) × LeavesToLinks (outline_in text x.tokens (Some t)) f)) (λ f. IsMadeIn text x (at_own_token x.tokens f))
                (λ f h. record {
                  at = in_tokens x.tokens f h.0;
                  code = ap is_item_code (code_is x.tokens f) ∙ h.1.0;
                  left = λ e outside member.
                      let same : outline_of_item text x ≡ outline_in text x.tokens (Some t) = ap (outline_in text x.tokens) is in
                      h.1.1 (sym (code_is x.tokens f) ∙ e) (ap (λ (s : Outline). has_own_scope s.role) (sym same) ∙ outside) (subst (λ (s : Outline). Contains (declared_tokens s) f.token) same member);
                }) fs
                (each_both (IsAt x.tokens) (λ f. (is_item_code f.code ≡ true) × LeavesToLinks (outline_in text x.tokens (Some t)) f) fs ats
                (each_both (λ (f : ItemFault). is_item_code f.code ≡ true) (LeavesToLinks (outline_in text x.tokens (Some t))) fs codes left))),
            two_map DifferInPlace (at_own_token x.tokens) fs
                (two_with (λ (a b : ItemFault). a ≢ b) (IsAt x.tokens) (λ f g. DifferInPlace (at_own_token x.tokens f) (at_own_token x.tokens g)) (λ f g a b other. differ x.tokens row.apart f g a b other) fs ats two),
          )

-- A finding that is made in one of the items.
pub record IsMade (text : List ℕ) (xs : List ProgramItem) (f : Finding) : Type 0 where
  pub i : ℕ
  pub x : ProgramItem
  pub item : slice_get xs i ≡ Some x
  pub made : IsMadeIn text x f

module _ (text : List ℕ) (xs : List ProgramItem) (laws : CheckLaws text) (apart : AreApart text xs) where
  abbrev ss : List Outline
  ss = outlines_of text xs

  each_found : Each (λ p. Each (IsMadeIn text p.1) (found_in_item text ss p) × EachTwo DifferInPlace (found_in_item text ss p)) (enumerate_from 0 xs)
  each_found =
      each_weaker (λ p. InARow text p.1.tokens × ((t : Item) → p.1.tree ≡ Some t → item_of (kinds_in text p.1.tokens) ≡ Some t))
      (λ p. Each (IsMadeIn text p.1) (found_in_item text ss p) × EachTwo DifferInPlace (found_in_item text ss p)) (λ p h. item_found text ss laws p.0 p.1 h.0 h.1) (enumerate_from 0 xs)
      (each_numbered (λ x. InARow text x.tokens × ((t : Item) → x.tree ≡ Some t → item_of (kinds_in text x.tokens) ≡ Some t)) 0 xs
      (each_both (λ x. InARow text x.tokens) (λ x. (t : Item) → x.tree ≡ Some t → item_of (kinds_in text x.tokens) ≡ Some t) xs apart.each apart.read))

  pub checked_once : EachTwo DifferInPlace (checked_faults text xs)
  checked_once =
      two_flat (found_in_item text ss) DifferInPlace (λ p q. AllBefore p.1.tokens q.1.tokens) (λ p f. IsMadeIn text p.1 f)
      (λ p q all f g a b. between p.1.tokens q.1.tokens all f g a.at b.at) (enumerate_from 0 xs) (two_numbered (λ x y. AllBefore x.tokens y.tokens) 0 xs apart.items) each_found

  pub checked_made : Each (IsMade text xs) (checked_faults text xs)
  checked_made =
      each_flat (found_in_item text ss) (IsMade text xs) (λ p. (slice_get xs p.0 ≡ Some p.1) × (Each (IsMadeIn text p.1) (found_in_item text ss p) × EachTwo DifferInPlace (found_in_item text ss p)))
      (λ p h. each_weaker (IsMadeIn text p.1) (IsMade text xs) (λ f made. record { i = p.0; x = p.1; item = h.0; made = made }) (found_in_item text ss p) h.1.0) (enumerate_from 0 xs)
      (each_both (λ p. slice_get xs p.0 ≡ Some p.1) (λ p. Each (IsMadeIn text p.1) (found_in_item text ss p) × EachTwo DifferInPlace (found_in_item text ss p)) (enumerate_from 0 xs)
      (numbered xs xs 0 (λ k. let same : 0 + k ≡ k = omega arith in ap (slice_get xs) (sym same))) each_found)
