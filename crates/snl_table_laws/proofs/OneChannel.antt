-- An element has one channel at most.
use Rattle.std.proofs.Common.{◌≡◌, ℕ, ◌+◌, ◌<◌, Bool, true, false, List, [], ◌∷◌, ◌++◌, length, map, Option, Some, None, refl, ap, ◌∙◌, sym, subst, arith}
use Rattle.std.specs.Prelude.{if◌then◌else◌}
use Rattle.std.specs.List.{AllByRecursion as Each, AllPairs, Contains, flat_map, zip}
use Rattle.std.proofs.lemmas.List.Elements.{All-from_recursion, Contains-append_left, Contains-push}
use Rattle.std.proofs.lemmas.List.Kept.{AllPairs-cons}
use Rattle.snl_lex.specs.declared.piece.Piece.{Piece}
use Rattle.snl_grammar.specs.declared.tree.clause.Channel.{Channel}
use Rattle.snl_grammar.specs.declared.tree.clause.Channel.TheVariants as channels
use Rattle.snl_grammar.specs.declared.tree.clause.Clause.{Clause}
use Rattle.snl_grammar.specs.declared.tree.clause.Clause.TheVariants as clauses
use Rattle.snl_scope.specs.declared.facts.ClauseLink.{ClauseLink}
use Rattle.snl_summary.specs.declared.summary.ClauseKind.TheVariants.{Assign}
use Rattle.snl_summary.specs.declared.summary.Coverage.{Coverage}
use Rattle.snl_summary.specs.declared.summary.Coverage.TheVariants.{Whole, Front}
use Rattle.snl_summary.specs.declared.summary.Outline.{Outline}
use Rattle.snl_summary.specs.declared.summary.VariableClause.{VariableClause}
use Rattle.snl_scope.specs.Clauses.{LinkedClause, clause_link, clauses_of, is_sound, soundness_after, with_clause}
use Rattle.snl_scope.specs.Names.{Entry, entries}
use Rattle.snl_summary.specs.Summaries.Clauses.{clause_of, covered_by_channel}
use Rattle.snl_check.specs.Channels.{AssignedChannel, assigned_channel, assigned_channels, by_element, channels_in, channels_of_clause, channels_on}
use Rattle.snl_check.specs.Clauses.{ItemClause, item_clauses, summarized}
use Rattle.snl_item_check.specs.Items.{ProgramItem, outlines_of, tokens_in}
use Rattle.snl_table_laws.specs.Channels.{AreApart, AreOfTwoElements, AssignApart, ChannelsApart, HasElement}
use Rattle.snl_table_laws.proofs.Assigns.{apart_from_sound}
use Rattle.snl_facts.specs.Each.{each_append, each_by, each_weaker, each_map, two_map, two_weaker, pairs_from_two, EachTwo, two_across}

-- ---- clauses beside what is told of their soundness

abbrev JudgedApart : LinkedClause × Bool → LinkedClause × Bool → Type 0
JudgedApart p q = p.1 ≡ true → q.1 ≡ true → AssignApart p.0 q.0

later_apart : (es : List Entry) (cs sound ds : List LinkedClause) (s : LinkedClause) → Contains sound s → Each (λ q. q.1 ≡ true → AssignApart s q.0) (zip ds (soundness_after es cs sound ds))
later_apart es cs sound [] s h = tt
later_apart es cs sound (d ∷ ds) s h = (λ e. apart_from_sound es cs sound d s e h, later_apart es cs (with_clause es cs sound d) ds s (still (is_sound es cs sound d)))
  where
    still : (b : Bool) → Contains (if b then sound ++ d ∷ [] else sound) s
    still true = Contains-append_left sound (d ∷ []) s h
    still false = h

judged_apart : (es : List Entry) (cs sound ds : List LinkedClause) → EachTwo JudgedApart (zip ds (soundness_after es cs sound ds))
judged_apart es cs sound [] = tt
judged_apart es cs sound (d ∷ ds) = (first (is_sound es cs sound d) refl, judged_apart es cs (with_clause es cs sound d) ds)
  where
    first : (b : Bool) → is_sound es cs sound d ≡ b → Each (JudgedApart (d, b)) (zip ds (soundness_after es cs (with_clause es cs sound d) ds))
    first true e =
        let P : Bool → Type 0 = λ b. Contains (if b then sound ++ d ∷ [] else sound) d in
        each_weaker (λ q. q.1 ≡ true → AssignApart d q.0) (JudgedApart (d, true)) (λ q h. λ yes. h) (zip ds (soundness_after es cs (with_clause es cs sound d) ds))
        (later_apart es cs (with_clause es cs sound d) ds d (subst P (sym e) (Contains-push sound d)))
    first false e = each_by (JudgedApart (d, false)) (λ q. λ no. absurd cc) (zip ds (soundness_after es cs (with_clause es cs sound d) ds))

-- ---- the channels of one clause

abbrev IsElement : Coverage → Option ℕ → Type 0
IsElement covered None = covered ≡ Whole
IsElement covered (Some e) = HasElement covered e

elements_within : (count from : ℕ) (lists : List (List ℕ)) → from + length lists ≡ count → Each (λ n. IsElement (Front count) n.element) (by_element from lists)
elements_within count from [] h = tt
elements_within count from (strings ∷ rest) h =
    let here : from < count = omega (arith, h) in
    let next : from + 1 + length rest ≡ count = omega (arith, h) in
    (here, elements_within count (from + 1) rest next)

later_elements : (e from : ℕ) (lists : List (List ℕ)) → e < from → Each (λ n. AreOfTwoElements (Some e) n.element) (by_element from lists)
later_elements e from [] h = tt
later_elements e from (strings ∷ rest) h = (λ same. omega (arith, h, same), later_elements e (from + 1) rest (omega (arith, h)))

elements_apart : (from : ℕ) (lists : List (List ℕ)) → EachTwo (λ m n. AreOfTwoElements m.element n.element) (by_element from lists)
elements_apart from [] = tt
elements_apart from (strings ∷ rest) = (later_elements from (from + 1) rest (omega arith), elements_apart (from + 1) rest)

named_within : (text : List ℕ) (tokens : List Piece) (channel : Channel) → Each (λ n. IsElement (covered_by_channel text tokens channel) n.element) (channels_in text tokens channel)
named_within text tokens channels.Anonymous = (refl, tt)
named_within text tokens (channels.Whole to strings) = (refl, tt)
named_within text tokens (channels.Element subscript to strings) = (refl, tt)
named_within text tokens (channels.Elements to lists trailing) = elements_within (length lists) 0 lists (omega arith)

named_apart : (text : List ℕ) (tokens : List Piece) (channel : Channel) → EachTwo (λ m n. AreOfTwoElements m.element n.element) (channels_in text tokens channel)
named_apart text tokens channels.Anonymous = (tt, tt)
named_apart text tokens (channels.Whole to strings) = (tt, tt)
named_apart text tokens (channels.Element subscript to strings) = (tt, tt)
named_apart text tokens (channels.Elements to lists trailing) = elements_apart 0 lists

-- A channel is one of the clause.
record IsOf (c : LinkedClause) (x : AssignedChannel) : Type 0 where
  kind : c.clause.kind ≡ Assign
  variable : c.variable ≡ Some x.variable
  element : IsElement c.clause.coverage x.element

of_assign : (text : List ℕ) (tokens : List Piece) (item name variable : ℕ) (channel : Channel) (c : LinkedClause) → c.variable ≡ Some variable → clause_of text tokens (clauses.Assign name channel) ≡ c.clause
    → Each (IsOf c) (map (assigned_channel item name variable) (channels_in text tokens channel))
of_assign text tokens item name variable channel c means e =
    each_map (IsOf c) (assigned_channel item name variable) (channels_in text tokens channel)
    (each_weaker (λ n. IsElement (covered_by_channel text tokens channel) n.element) (λ n. IsOf c (assigned_channel item name variable n))
    (λ n h. record { kind = sym (ap (λ k. k.kind) e); variable = means; element = subst (λ covered. IsElement covered n.element) (ap (λ k. k.coverage) e) h })
    (channels_in text tokens channel) (named_within text tokens channel))

of_clause : (text : List ℕ) (xs : List ProgramItem) (item : ℕ) (clause : Clause) (c : LinkedClause) (o : Option ℕ) → c.variable ≡ o → clause_of text (tokens_in xs item) clause ≡ c.clause
    → Each (IsOf c) (channels_on text xs item o clause)
of_clause text xs item (clauses.Assign name channel) c None means e = tt
of_clause text xs item (clauses.Assign name channel) c (Some variable) means e = of_assign text (tokens_in xs item) item name variable channel c means e
of_clause text xs item (clauses.Monitor name subscript) c None means e = tt
of_clause text xs item (clauses.Monitor name subscript) c (Some variable) means e = tt
of_clause text xs item (clauses.Sync name subscript flag) c None means e = tt
of_clause text xs item (clauses.Sync name subscript flag) c (Some variable) means e = tt
of_clause text xs item (clauses.Syncq capital name subscript flag queue) c None means e = tt
of_clause text xs item (clauses.Syncq capital name subscript flag queue) c (Some variable) means e = tt

apart_on : (text : List ℕ) (xs : List ProgramItem) (item : ℕ) (clause : Clause) (o : Option ℕ) → EachTwo ChannelsApart (channels_on text xs item o clause)
apart_on text xs item (clauses.Assign name channel) None = tt
apart_on text xs item (clauses.Assign name channel) (Some variable) =
    two_map ChannelsApart (assigned_channel item name variable) (channels_in text (tokens_in xs item) channel)
    (two_weaker (λ m n. AreOfTwoElements m.element n.element) (λ m n. ChannelsApart (assigned_channel item name variable m) (assigned_channel item name variable n)) (λ m n h. λ same. h)
    (channels_in text (tokens_in xs item) channel) (named_apart text (tokens_in xs item) channel))
apart_on text xs item (clauses.Monitor name subscript) None = tt
apart_on text xs item (clauses.Monitor name subscript) (Some variable) = tt
apart_on text xs item (clauses.Sync name subscript flag) None = tt
apart_on text xs item (clauses.Sync name subscript flag) (Some variable) = tt
apart_on text xs item (clauses.Syncq capital name subscript flag queue) None = tt
apart_on text xs item (clauses.Syncq capital name subscript flag queue) (Some variable) = tt

-- ---- the channels of two clauses

of_two : (a b : Coverage) (e f : Option ℕ) → AreApart a b → IsElement a e → IsElement b f → AreOfTwoElements e f
of_two a b None f apart p q = apart.first p
of_two a b (Some e) None apart p q = apart.second q
of_two a b (Some e) (Some f) apart p q = λ same. apart.elements e p (subst (HasElement b) (sym same) q)

channels_apart : (c d : LinkedClause) (x y : AssignedChannel) → AssignApart c d → IsOf c x → IsOf d y → ChannelsApart x y
channels_apart c d x y apart p q = λ same.
    of_two c.clause.coverage d.clause.coverage x.element y.element
    (apart x.variable (record { kind = p.kind; variable = p.variable }) (record { kind = q.kind; variable = q.variable ∙ ap Some (sym same) })) p.element q.element

-- ---- those of all

abbrev told : List ItemClause → List LinkedClause → List Bool → List (ItemClause × ClauseLink)
told items cs sound = zip items (map (λ p. clause_link p.0 p.1) (zip cs sound))

-- These are the same clauses.
abbrev AreSame : List ℕ → List ProgramItem → List ItemClause → List LinkedClause → Type 0
AreSame text xs items cs = map (summarized text xs) items ≡ map (λ c. (c.item, c.clause)) cs

first_same : (text : List ℕ) (xs : List ProgramItem) (i : ItemClause) (items : List ItemClause) (c : LinkedClause) (cs : List LinkedClause) → AreSame text xs (i ∷ items) (c ∷ cs)
    → clause_of text (tokens_in xs i.item) i.clause ≡ c.clause
first_same text xs i items c cs e = let pair : ◌≡◌ {A = ℕ × VariableClause} (i.item, clause_of text (tokens_in xs i.item) i.clause) (c.item, c.clause) = cc in ap (λ p. p.1) pair

rest_same : (text : List ℕ) (xs : List ProgramItem) (i : ItemClause) (items : List ItemClause) (c : LinkedClause) (cs : List LinkedClause) → AreSame text xs (i ∷ items) (c ∷ cs) → AreSame text xs items cs
rest_same text xs i items c cs e = cc

-- The channels of a clause, if it is sound.
of_judged : (text : List ℕ) (xs : List ProgramItem) (i : ItemClause) (c : LinkedClause) (sound : Bool) → clause_of text (tokens_in xs i.item) i.clause ≡ c.clause
    → Each (λ x. (sound ≡ true) × IsOf c x) (channels_of_clause text xs (i, clause_link c sound))
of_judged text xs i c false e = tt
of_judged text xs i c true e =
    each_weaker (IsOf c) (λ x. (true ≡ true) × IsOf c x) (λ x h. (refl, h)) (channels_on text xs i.item c.variable i.clause) (of_clause text xs i.item i.clause c c.variable refl e)

judged_own : (text : List ℕ) (xs : List ProgramItem) (i : ItemClause) (c : LinkedClause) (sound : Bool) → EachTwo ChannelsApart (channels_of_clause text xs (i, clause_link c sound))
judged_own text xs i c false = tt
judged_own text xs i c true = apart_on text xs i.item i.clause c.variable

apart_from_rest : (text : List ℕ) (xs : List ProgramItem) (c : LinkedClause) (x : AssignedChannel) → IsOf c x → (items : List ItemClause) (cs : List LinkedClause) (sound : List Bool)
    → AreSame text xs items cs → Each (JudgedApart (c, true)) (zip cs sound) → Each (ChannelsApart x) (flat_map (channels_of_clause text xs) (told items cs sound))
apart_from_rest text xs c x is [] cs sound same apart = tt
apart_from_rest text xs c x is (i ∷ items) [] sound same apart = absurd cc
apart_from_rest text xs c x is (i ∷ items) (d ∷ ds) [] same apart = tt
apart_from_rest text xs c x is (i ∷ items) (d ∷ ds) (b ∷ bs) same apart =
    each_append (ChannelsApart x) (channels_of_clause text xs (i, clause_link d b)) (flat_map (channels_of_clause text xs) (told items ds bs))
    (each_weaker (λ y. (b ≡ true) × IsOf d y) (ChannelsApart x) (λ y h. channels_apart c d x y (apart.0 refl h.0) is h.1)
    (channels_of_clause text xs (i, clause_link d b)) (of_judged text xs i d b (first_same text xs i items d ds same)))
    (apart_from_rest text xs c x is items ds bs (rest_same text xs i items d ds same) apart.1)

all_apart : (text : List ℕ) (xs : List ProgramItem) (items : List ItemClause) (cs : List LinkedClause) (sound : List Bool) → AreSame text xs items cs → EachTwo JudgedApart (zip cs sound)
    → EachTwo ChannelsApart (flat_map (channels_of_clause text xs) (told items cs sound))
all_apart text xs [] cs sound same two = tt
all_apart text xs (i ∷ items) [] sound same two = absurd cc
all_apart text xs (i ∷ items) (c ∷ cs) [] same two = tt
all_apart text xs (i ∷ items) (c ∷ cs) (b ∷ bs) same two =
    two_across ChannelsApart (channels_of_clause text xs (i, clause_link c b)) (flat_map (channels_of_clause text xs) (told items cs bs)) (judged_own text xs i c b)
    (all_apart text xs items cs bs (rest_same text xs i items c cs same) two.1)
    (each_weaker (λ x. (b ≡ true) × IsOf c x) (λ x. Each (ChannelsApart x) (flat_map (channels_of_clause text xs) (told items cs bs)))
    (λ x h. apart_from_rest text xs c x h.1 items cs bs (rest_same text xs i items c cs same) (subst (λ t. Each (JudgedApart (c, t)) (zip cs bs)) h.0 two.0))
    (channels_of_clause text xs (i, clause_link c b)) (of_judged text xs i c b (first_same text xs i items c cs same)))

pub one_channel : (text : List ℕ) (xs : List ProgramItem) → AreSame text xs (item_clauses xs) (clauses_of (outlines_of text xs)) → AllPairs ChannelsApart (assigned_channels text xs (outlines_of text xs))
one_channel text xs same =
    let ss : List Outline = outlines_of text xs in
    pairs_from_two ChannelsApart (assigned_channels text xs ss)
    (all_apart text xs (item_clauses xs) (clauses_of ss) (soundness_after (entries ss) (clauses_of ss) [] (clauses_of ss)) same (judged_apart (entries ss) (clauses_of ss) [] (clauses_of ss)))
