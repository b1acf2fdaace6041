-- Where clap's definitions find no fault in the words, the command takes them.
use Rattle.std.proofs.Common.{◌≡◌, ◌∙◌, ◌&&◌, ◌||◌, ℕ, zero, suc, refl, sym, ap, arith, true, false, not, cond, Bool, List, [], ◌∷◌, drop, length, Option, Some, None, is_some, nat_le}
use Rattle.std.specs.Prelude.{encode_utf8, slice_get}
use Rattle.std.specs.List.{list_all}
use Rattle.std.specs.Option.{option_map_or}
use Rattle.std.specs.Str.{bytes_eq, chars}
use Rattle.std.proofs.lemmas.Bool.Decides.{nat_tests}
use Rattle.clap.specs.declared.builder.action.ArgAction.{ArgAction}
use Rattle.clap.specs.declared.builder.action.ArgAction.TheVariants.{Append, Count, Help, HelpLong, HelpShort, Set, SetFalse, SetTrue, Version}
use Rattle.clap.specs.declared.error.kind.ErrorKind.{ErrorKind}
use Rattle.clap.specs.Facts.{unwrap_or_range}
use Rattle.clap.specs.Faults.{action_fault, bundle_fault, bundle_step_fault, count_fault, fault_of, flag_word_fault, flags_fault, is_simple_and_free, level_fault, long_fault, option_fault, other_fault, positional_fault, react_fault, repeat_fault, set_fault, settle_fault, short_fault, step_fault, stray_fault, turn_fault, use_fault, values_fault, walk_fault, word_fault}
use Rattle.clap.specs.Kinds.{Kinds, or_else, range_kinds}
use Rattle.clap.specs.Lexer.{long_of, short_of}
use Rattle.clap.specs.Simple.{App, Shape, argument_words, built}
use Rattle.clap.specs.Takes.{action_passes, bundle_passes, bundle_step_passes, count_passes, default_passes, flag_word_passes, flags_pass, is_valid, level_passes, long_passes, option_passes, other_passes, positional_passes, react_passes, set_passes, settle_passes, short_passes, step_passes, turn_passes, use_passes, value_passes, values_pass, walk_passes, word_passes}
use Rattle.clap.specs.Walk.{Held, Names, Row, Rule, Step, Text, Waiting, Walk, action_of, arg_by_id, arg_by_index, arg_by_long, arg_by_short, attached_value, finished, has_row, is_pending, most_values, next, nothing_held, reacted, settled, subcommand, subcommand_met, takes_several, takes_values, trailing, value, values_or_missing, walk, walk_from, walked, word_met}
use Rattle.clap.proofs.FaultLemmas.{leaf_fault}
use Rattle.clap.proofs.OnLiterals.{clap_on_literals}
use Rattle.clap.proofs.TakesLemmas.{leaf_takes}
use Rattle.snl_words.specs.Source.{source_app, takes_words}
use Rattle.snl_words.proofs.SourceLemmas.{source_app-is_simple}
use Rattle.std.proofs.lemmas.Bool.{and_from}

-- two steps without a fault
neither : (a b : Kinds) → or_else a b ≡ [] → (a ≡ []) × (b ≡ [])
neither [] b h = (refl, h)
neither (k ∷ ks) b h = cc

-- the fault comes only where the test fails
no_kind : (b : Bool) (k : ErrorKind) → cond b [] (k ∷ []) ≡ [] → b ≡ true
no_kind true k h = refl
no_kind false k h = cc

-- ---- one use of an argument

values-taken : (a : Rule) (vs : List Text) → values_fault a vs ≡ [] → values_pass a vs ≡ true
values-taken a [] h = refl
values-taken a (v ∷ vs) h =
    let p = neither _ _ h in
    and_from (value_passes a v) (values_pass a vs) (no_kind (value_passes a v) _ p.0) (values-taken a vs p.1)

range-taken : (least most n : ℕ) → range_kinds least most n ≡ [] → (nat_le least n ≡ true) × (nat_le n most ≡ true)
range-taken least most n h = (grind (arith, nat_tests), grind (arith, nat_tests))

repeat-taken : (again : Bool) (id : Text) (rows : List Row) → repeat_fault again id rows ≡ [] → (not (has_row id rows) || again) ≡ true
repeat-taken again id rows h = go (has_row id rows) again _ h
  where
    go : (has often : Bool) (k : ErrorKind) → cond (has && not often) (k ∷ []) [] ≡ [] → (not has || often) ≡ true
    go true true k e = refl
    go true false k e = cc
    go false often k e = refl

set-taken : (again : Bool) (a : Rule) (values : List Text) (rows : List Row) → set_fault again a values rows ≡ [] → set_passes again a values rows ≡ true
set-taken again a values rows h =
    let p = neither _ _ h in
    and_from (not (has_row a.id rows) || again) (values_pass a values) (repeat-taken again a.id rows p.0) (values-taken a values p.1)

count-taken : (a : Rule) (values : List Text) (rows : List Row) → count_fault a values rows ≡ [] → count_passes a values rows ≡ true
count-taken a [] rows h = no_kind _ _ h
count-taken a (v ∷ vs) rows h = values-taken a (v ∷ vs) h

action-taken : (x : ArgAction) (again : Bool) (a : Rule) (values : List Text) (rows : List Row) → action_fault x again a values rows ≡ [] → action_passes x again a values rows ≡ true
action-taken Set again a values rows h = set-taken again a values rows h
action-taken Append again a values rows h = values-taken a values h
action-taken SetTrue again a values rows h = set-taken again a values rows h
action-taken SetFalse again a values rows h = set-taken again a values rows h
action-taken Count again a values rows h = count-taken a values rows h
action-taken Help again a values rows h = cc
action-taken HelpShort again a values rows h = cc
action-taken HelpLong again a values rows h = cc
action-taken Version again a values rows h = cc

use-taken : (again : Bool) (a : Rule) (values : List Text) (rows : List Row) → use_fault again a values rows ≡ [] → use_passes again a values rows ≡ true
use-taken again a values rows h =
    let p = neither _ _ h in
    let range = range-taken (unwrap_or_range a.range).start_inclusive (most_values a) (length values) p.0 in
    and_from _ _ range.0 (and_from _ _ range.1 (action-taken (action_of a) again a (values_or_missing a values) rows p.1))

-- ---- a word

settle-taken : (c : List Rule) (again : Bool) (h : Held) → settle_fault c again h ≡ [] → settle_passes c again h ≡ true
settle-taken c again h e = at h.pending e
  where
    used : (o : Option Rule) (vs : List Text) → option_map_or (λ a. use_fault again a vs h.rows) o [] ≡ [] → option_map_or (λ a. use_passes again a vs h.rows) o true ≡ true
    used None vs k = refl
    used (Some a) vs k = use-taken again a vs h.rows k

    at : (o : Option (Text × List Text)) → option_map_or (λ p. option_map_or (λ a. use_fault again a p.1 h.rows) (arg_by_id c p.0) []) o [] ≡ [] → option_map_or (λ p. option_map_or (λ a. use_passes again a p.1 h.rows) (arg_by_id c p.0) true) o true ≡ true
    at None k = refl
    at (Some p) k = used (arg_by_id c p.0) p.1 k

react-taken : (c : List Rule) (again : Bool) (a : Rule) (values : List Text) (h : Held) → react_fault c again a values h ≡ [] → react_passes c again a values h ≡ true
react-taken c again a values h e =
    let p = neither _ _ e in
    and_from _ _ (settle-taken c again h p.0) (use-taken again a values (settled c h).rows p.1)

option-taken : (c : List Rule) (again : Bool) (a : Rule) (v : Option Text) (h : Held) → option_fault c again a v h ≡ [] → option_passes c again a v h ≡ true
option-taken c again a (Some v) h e = react-taken c again a (v ∷ []) h e
option-taken c again a None h e = settle-taken c again h e

long-taken : (c : List Rule) (again : Bool) (found : Option Rule) (v : Option Text) (h : Held) → long_fault c again found v h ≡ [] → long_passes c again found v h ≡ true
long-taken c again None v h e = cc
long-taken c again (Some a) v h e = by (takes_values a) v _ e
  where
    by : (b : Bool) (w : Option Text) (k : ErrorKind) → cond b (option_fault c again a w h) (cond (is_some w) (k ∷ []) (react_fault c again a [] h)) ≡ [] → cond b (option_passes c again a w h) (not (is_some w) && react_passes c again a [] h) ≡ true
    by true w k p = option-taken c again a w h p
    by false (Some w) k p = cc
    by false None k p = react-taken c again a [] h p

short-taken : (c : List Rule) (again : Bool) (found : Option Rule) (rest : Text) (h : Held) (faults : Held → Kinds) (passes : Held → Bool) → ((g : Held) → faults g ≡ [] → passes g ≡ true) → short_fault c again found rest h faults ≡ [] → short_passes c again found rest h passes ≡ true
short-taken c again None rest h faults passes then e = cc
short-taken c again (Some a) rest h faults passes then e = by (takes_values a) e
  where
    by : (b : Bool) → cond b (option_fault c again a (attached_value rest) h) (or_else (react_fault c again a [] h) (faults (reacted c a [] h))) ≡ [] → cond b (option_passes c again a (attached_value rest) h) (react_passes c again a [] h && passes (reacted c a [] h)) ≡ true
    by true p = option-taken c again a (attached_value rest) h p
    by false p =
        let q = neither _ _ p in
        and_from _ _ (react-taken c again a [] h q.0) (then (reacted c a [] h) q.1)

bundle-taken : (c : List Rule) (again : Bool) (o : Option ℕ) (flags : Text) (skip : ℕ) (h : Held) (faults : Text → ℕ → Held → Kinds) (passes : Text → ℕ → Held → Bool) → ((f : Text) (n : ℕ) (g : Held) → faults f n g ≡ [] → passes f n g ≡ true) → bundle_step_fault c again o flags skip h faults ≡ [] → bundle_step_passes c again o flags skip h passes ≡ true
bundle-taken c again None flags skip h faults passes then e = refl
bundle-taken c again (Some x) flags zero h faults passes then e =
    let rest = drop (length (encode_utf8 x)) flags in
    short-taken c again (arg_by_short c x) rest h (faults rest 0) (passes rest 0) (then rest 0) e
bundle-taken c again (Some x) flags (suc skip) h faults passes then e = then (drop (length (encode_utf8 x)) flags) skip h e

flags-taken : (c : List Rule) (again : Bool) (k : ℕ) (flags : Text) (skip : ℕ) (h : Held) → flags_fault c again k flags skip h ≡ [] → flags_pass c again k flags skip h ≡ true
unfolding flags_fault flags_pass
flags-taken c again zero flags skip h e = refl
flags-taken c again (suc k) flags skip h e = bundle-taken c again (slice_get (chars flags) 0) flags skip h _ _ (flags-taken c again k) e

flag_word-taken : (c : List Rule) (again : Bool) (long : Option (Text × Option Text)) (word : Text) (h : Held) → flag_word_fault c again long word h ≡ [] → flag_word_passes c again long word h ≡ true
flag_word-taken c again (Some p) word h e = long-taken c again (arg_by_long c p.0) p.1 h e
flag_word-taken c again None word h e = at (short_of word) e
  where
    at : (o : Option Text) → option_map_or (λ flags. bundle_fault c again flags h) o [] ≡ [] → option_map_or (λ flags. bundle_passes c again flags h) o true ≡ true
    at None p = refl
    at (Some flags) p = flags-taken c again (length flags) flags h.skip (record h { skip = 0 }) p

other-taken : (s : Shape) (met : Option Text) (word : Text) (h : Held) → other_fault s met word h ≡ [] → other_passes s met word h ≡ true
other-taken s (Some name) word h e = by (bytes_eq name _) s.disable_help_subcommand _ _ e
  where
    by : (b off : Bool) (k : ErrorKind) (ks : Kinds) → cond (b && not off) (k ∷ ks) [] ≡ [] → (not b || off) ≡ true
    by true true k ks p = refl
    by true false k ks p = cc
    by false off k ks p = refl
other-taken s None word h e = by (bytes_eq word (45 ∷ 45 ∷ [])) e
  where
    by : (b : Bool) → cond b [] (flag_word_fault s.rules s.args_override_self (long_of word) word h) ≡ [] → (b || flag_word_passes s.rules s.args_override_self (long_of word) word h) ≡ true
    by true p = refl
    by false p = flag_word-taken s.rules s.args_override_self (long_of word) word h p

word-taken : (s : Shape) (names : Names) (is_trailing : Bool) (waiting : Waiting) (word : Text) (h : Held) → word_fault s names is_trailing waiting word h ≡ [] → word_passes s names is_trailing waiting word h ≡ true
word-taken s names true waiting word h e = refl
word-taken s names false waiting word h e = other-taken s (subcommand_met names waiting word) word h e

-- ---- all words

positional-taken : (c : List Rule) (again : Bool) (a : Rule) (h : Held) → positional_fault c again a h ≡ [] → positional_passes c again a h ≡ true
positional-taken c again a h e = by (is_pending a h.pending && takes_several a) e
  where
    by : (b : Bool) → cond b [] (settle_fault c again h) ≡ [] → (b || settle_passes c again h) ≡ true
    by true p = refl
    by false p = settle-taken c again h p

step-taken : (s : Shape) (position : ℕ) (h : Held) (step : Step) → step_fault s position h step ≡ [] → step_passes s position h step ≡ true
step-taken s position h (next waiting) e = refl
step-taken s position h (trailing p) e = refl
step-taken s position h (subcommand name) e = refl
step-taken s position h value e = at (arg_by_index s.rules position) e
  where
    stray : (b : Bool) (k l m : ErrorKind) → cond b (k ∷ []) (l ∷ m ∷ []) ≡ [] → false ≡ true
    stray true k l m p = cc
    stray false k l m p = cc

    at : (o : Option Rule) → option_map_or (λ a. positional_fault s.rules s.args_override_self a h) o (stray_fault s) ≡ [] → option_map_or (λ a. positional_passes s.rules s.args_override_self a h) o false ≡ true
    at None p = stray s.is_leaf _ _ _ p
    at (Some a) p = positional-taken s.rules s.args_override_self a h p

turn-taken : (s : Shape) (names : Names) (w : Walk) (word : Text) → turn_fault s names w word ≡ [] → turn_passes s names w word ≡ true
turn-taken s names w word e = by (is_some w.stopped) e
  where
    met : Held × Step
    met = word_met s.rules names w.is_trailing w.waiting w.position word w.held

    by : (b : Bool) → cond b [] (or_else (word_fault s names w.is_trailing w.waiting word w.held) (step_fault s w.position met.0 met.1)) ≡ [] → (b || (word_passes s names w.is_trailing w.waiting word w.held && step_passes s w.position met.0 met.1)) ≡ true
    by true p = refl
    by false p =
        let q = neither _ _ p in
        and_from _ _ (word-taken s names w.is_trailing w.waiting word w.held q.0) (step-taken s w.position met.0 met.1 q.1)

walk-taken : (s : Shape) (names : Names) (w : Walk) (words : List Text) → walk_fault s names w words ≡ [] → walk_passes s names w words ≡ true
unfolding walk_fault walk_passes
walk-taken s names w [] e = refl
walk-taken s names w (word ∷ words) e =
    let p = neither _ _ e in
    and_from _ _ (turn-taken s names w word p.0) (walk-taken s names (walked s.rules names w word) words p.1)

-- where no default is refused and nothing else is wanted, the walk decides
level-taken : (s : Shape) (h : Held) (words : List Text) → list_all default_passes s.rules ≡ true → ((rows : List Row) → is_valid s rows false ≡ true) → level_fault s [] h words false [] ≡ [] → level_passes s [] h words false ≡ true
level-taken s h words defaults valid e =
    let end = (walk s.rules [] h words).held in
    let p = neither (walk_fault s [] (walk_from h) words) _ e in
    let q = neither (settle_fault s.rules s.args_override_self end) _ p.1 in
    let after : (list_all default_passes s.rules && is_valid s (finished s.rules end) false) ≡ true = and_from _ _ defaults (valid (finished s.rules end)) in
    and_from _ _ (walk-taken s [] (walk_from h) words p.0) (and_from _ _ (settle-taken s.rules s.args_override_self end q.0) after)

source_app-is_simple_and_free : is_simple_and_free source_app ≡ true
unfolding source_app clap_on_literals
source_app-is_simple_and_free = refl

source_app-has_defaults : list_all default_passes (built source_app).top.rules ≡ true
unfolding source_app clap_on_literals
source_app-has_defaults = refl

source_app-wants_nothing : (rows : List Row) → is_valid (built source_app).top rows false ≡ true
unfolding source_app clap_on_literals
source_app-wants_nothing rows = refl

source_app-has_no_subcommand : (built source_app).subs ≡ []
unfolding source_app clap_on_literals
source_app-has_no_subcommand = refl

-- words without a fault are taken
words-taken : (words : List Text) → fault_of source_app words ≡ [] → takes_words words ≡ true
unfolding takes_words
words-taken words h =
    let args = argument_words source_app words in
    let none = source_app-has_no_subcommand in
    let level = level-taken (built source_app).top nothing_held args source_app-has_defaults source_app-wants_nothing (sym (leaf_fault (built source_app) nothing_held args none) ∙ h) in
    and_from _ _ source_app-is_simple (leaf_takes (built source_app) nothing_held args none level)

-- a command that found no fault, by the definition of it
pub found-taken : (app : App) (words : List Text) → app ≡ source_app → (is_simple_and_free app ≡ true → fault_of app words ≡ []) → takes_words words ≡ true
found-taken app words is h =
    words-taken words (ap (λ (a : App). fault_of a words) (sym is) ∙ h (ap is_simple_and_free is ∙ source_app-is_simple_and_free))
