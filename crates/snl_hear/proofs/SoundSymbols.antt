-- The answer with symbols is a value that a text can have, so that it reads back.
use Rattle.std.proofs.Common.{◌≡◌, ℕ, suc, ◌+◌, ◌*◌, ◌≤◌, ◌<◌, List, [], ◌∷◌, true, false, cond, nat_lt, Some, codes, refl, arith}
use Rattle.serde_json.specs.Data.{Data, array, Items, items_depth}
use Rattle.serde_json.specs.Written.{compact_text}
use Rattle.snl_say.specs.Symbols.{IsNested, Forest, no_symbols, symbol, SymbolFound, after_deeper, deeper, kind_number, forest_data, forest_of, symbol_data, symbols_data}
use Rattle.snl_say.specs.declared.symbols.SymbolKind.{SymbolKind}
use Rattle.snl_say.specs.declared.symbols.SymbolKind.TheVariants.{Program, StateSet, State, Variable, EventFlag, Function}
use Rattle.snl_say.proofs.Nesting.{all_nested}
use Rattle.snl_hear.specs.Ids.{IsSoundId}
use Rattle.snl_hear.specs.Json.{json_in}
use Rattle.snl_hear.specs.Sound.{AreSound, AreSoundSymbols, IsSound, IsSoundSymbol}
use Rattle.snl_hear.proofs.SoundAnswers.{answer_back}
use Rattle.snl_hear.proofs.SoundPlaces.{ascii, range_sound}

-- ---- the symbols of a forest

abbrev AreSoundIn : Forest → Type 0
AreSoundIn no_symbols = Unit {0}
AreSoundIn (symbol s children rest) = IsSoundSymbol s × AreSoundIn children × AreSoundIn rest

sound_deeper : (depth : ℕ) (o : Forest) → AreSoundIn o → AreSoundIn (deeper depth o)
sound_deeper depth no_symbols h = tt
sound_deeper depth (symbol s children rest) h =
    elim (nat_lt depth s.depth) as (λ b.
    AreSoundIn (cond b (symbol s children (deeper depth rest)) no_symbols))
    [ true ↦ (h.0, h.1, sound_deeper depth rest h.2) | false ↦ tt ]

sound_after : (depth : ℕ) (o : Forest) → AreSoundIn o → AreSoundIn (after_deeper depth o)
sound_after depth no_symbols h = tt
sound_after depth (symbol s children rest) h =
    elim (nat_lt depth s.depth) as (λ b.
    AreSoundIn (cond b (after_deeper depth rest) (symbol s children rest)))
    [ true ↦ sound_after depth rest h.2 | false ↦ h ]

sound_in : (symbols : List SymbolFound) → AreSoundSymbols symbols →
    AreSoundIn (forest_of symbols)
sound_in [] h = tt
sound_in (s ∷ ss) h =
    let others = sound_in ss h.1 in
    (h.0, sound_deeper s.depth (forest_of ss) others, sound_after s.depth (forest_of ss) others)

-- ---- strings and numbers

kind_sound : (kind : SymbolKind) → kind_number kind < 18446744073709551616
kind_sound Program = omega arith
kind_sound StateSet = omega arith
kind_sound State = omega arith
kind_sound Variable = omega arith
kind_sound EventFlag = omega arith
kind_sound Function = omega arith

symbol_sound : (s : SymbolFound) (children : Items) → IsSoundSymbol s → AreSound children →
    IsSound (symbol_data s children)
symbol_sound s children h k = (
  ascii (codes "children") refl,
  k,
  (refl, (refl, (refl, (refl, tt)))),
  (
    ascii (codes "kind") refl,
    kind_sound s.kind,
    (refl, (refl, (refl, tt))),
    (
      ascii (codes "name") refl,
      h.name,
      (refl, (refl, tt)),
      (
        ascii (codes "range") refl,
        range_sound s.start s.stop h.start h.stop,
        (refl, tt),
        (
          ascii (codes "selectionRange") refl,
          range_sound s.name_start s.name_stop h.name_start h.name_stop,
          tt,
          tt,
        ),
      ),
    ),
  ),
)

forest_sound : (o : Forest) → AreSoundIn o → AreSound (forest_data o)
forest_sound no_symbols h = tt
forest_sound (symbol s children rest) h = (
  symbol_sound s (forest_data children) h.0 (forest_sound children h.1),
  forest_sound rest h.2,
)

-- ---- levels

-- those that are this deep at least nest so much less
shallow : (least : ℕ) (o : Forest) → IsNested least o → AreSoundIn o → least ≤ 62 →
    2 * least + items_depth (forest_data o) ≤ 125
shallow least no_symbols h k few = omega arith
shallow least (symbol s children rest) h k few =
    let deep : s.depth ≤ 61 = k.0.depth in
    let within : 2 * suc s.depth + items_depth (forest_data children) ≤ 125 =
    shallow (suc s.depth) children h.1 k.1 (omega arith) in
    let after : 2 * least + items_depth (forest_data rest) ≤ 125 =
    shallow least rest h.3 k.2 few in
    let least_is : least ≤ s.depth = h.0 in
    omega arith

pub symbols_answer : (id : Data) (symbols : List SymbolFound) → IsSoundId id →
    AreSoundSymbols symbols →
    json_in (compact_text (symbols_data id symbols)) ≡ Some (symbols_data id symbols)
symbols_answer id symbols h are =
    let o = forest_of symbols in
    let sound = sound_in symbols are in
    let few : 2 * 0 + items_depth (forest_data o) ≤ 125 =
    shallow 0 o (all_nested symbols) sound (omega arith) in
    answer_back id (array (forest_data o)) h (forest_sound o sound) (omega (arith, few))
