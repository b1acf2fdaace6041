-- The codes of the diagnostics: as they are printed, and who finds what has them.
use Rattle.std.specs.Prelude.{ℕ, List, [], ◌∷◌, Bool, true, false, codes}
use Rattle.snl_codes.specs.declared.code.Code.{Code}
use Rattle.snl_codes.specs.declared.code.Code.TheVariants.{E01, E02, E03, E04, E05, E06, E07, E08, E09, E10, E11, E12, E13, E14, E15, E16, E17, E18, E19, E20, E21, E22, W01, W02, W03, W04, W05}
use Rattle.snl_codes.specs.declared.code.Quoted.{Quoted}
use Rattle.snl_codes.specs.declared.code.Quoted.TheVariants.{Nothing, OneByte, Token}

-- Who finds what has a code.
pub data Finder : Type 0 where
  parser : Finder
  links : Finder
  -- the links where the scope is outside items, the rules else
  links_or_rules : Finder
  -- the rules on what is at one occurrence of an item
  rules : Finder
  -- the rule on all that an item uses
  undeclared_names : Finder
  options : Finder
  -- the walk over the states of a set
  reachability : Finder

-- What is said of a code: its name, the text of its message, whether it is an error and no warning,
-- what the message quotes of a token, and who finds it.
pub record Row : Type 0 where
  pub name : List ℕ
  pub message : List ℕ
  pub is_error : Bool
  pub quoted : Quoted
  pub finder : Finder

abbrev pub error : List ℕ → List ℕ → Quoted → Finder → Row
error name message quoted finder =
    record { name = name; message = message; is_error = true; quoted = quoted; finder = finder }

abbrev pub warning : List ℕ → List ℕ → Quoted → Finder → Row
warning name message quoted finder =
    record { name = name; message = message; is_error = false; quoted = quoted; finder = finder }

abbrev pub row_of : Code → Row
row_of E01 = error (codes "E01") (codes "bad piece") Nothing parser
row_of E02 = error (codes "E02") (codes "syntax error") Nothing parser
row_of E03 = error (codes "E03") (codes "item out of place") Nothing links
row_of E04 = error (codes "E04") (codes "state set braces do not match") Nothing links
row_of E05 = error (codes "E05") (codes "one program header is required") Nothing links
row_of E06 = error (codes "E06") (codes "state set or state is missing") Nothing links
row_of E07 = error (codes "E07") (codes "declared twice") Token links_or_rules
row_of E08 = error (codes "E08") (codes "state set named twice") Token links
row_of E09 = error (codes "E09") (codes "state named twice in its state set") Token links
row_of E10 = error (codes "E10") (codes "unknown state") Token rules
row_of E11 = error (codes "E11") (codes "clause on an undeclared variable") Token links
row_of E12 = error (codes "E12") (codes "assigned twice") Token links
row_of E13 = error (codes "E13") (codes "not assigned") Token links
row_of E14 = error (codes "E14") (codes "not an event flag") Token links
row_of E15 = error (codes "E15") (codes "type cannot be assigned") Token links
row_of E16 = error (codes "E16") (codes "subscript or list does not fit the variable") Token links
row_of E17 = error (codes "E17") (codes "event flag declared wrongly") Token rules
row_of E18 = error (codes "E18") (codes "state change outside a transition") Nothing rules
row_of E19 = error (codes "E19") (codes "not inside a loop") Token rules
row_of E20 = error (codes "E20") (codes "argument is not an event flag") Token rules
row_of E21 = error (codes "E21") (codes "argument is not assigned") Token rules
row_of E22 = error (codes "E22") (codes "synced twice") Token links
row_of W01 = warning (codes "W01") (codes "undeclared name") Token undeclared_names
row_of W02 = warning (codes "W02") (codes "state not reachable") Token reachability
row_of W03 = warning (codes "W03") (codes "delay outside a condition") Nothing rules
row_of W04 = warning (codes "W04") (codes "unknown option letter") OneByte options
row_of W05 = warning (codes "W05") (codes "monitored twice") Token links

-- A code's name.
unfoldable pub name_of : Code → List ℕ
name_of c = (row_of c).name

-- The text of a code's message, without what it quotes.
unfoldable pub message_of : Code → List ℕ
message_of c = (row_of c).message

-- The codes with W are warnings, all others errors.
unfoldable pub is_error : Code → Bool
is_error c = (row_of c).is_error

-- How many bytes are quoted of a token of so many: none, an option's letter, or the whole token.
abbrev pub quoted_by : Quoted → ℕ → ℕ
quoted_by Nothing len = 0
quoted_by OneByte len = 1
quoted_by Token len = len

abbrev pub quoted_bytes : Code → ℕ → ℕ
quoted_bytes c len = quoted_by (row_of c).quoted len

abbrev pub finder_of : Code → Finder
finder_of c = (row_of c).finder

abbrev pub finds_at_occurrences : Finder → Bool
finds_at_occurrences rules = true
finds_at_occurrences _ = false

abbrev pub finds_by_rules : Finder → Bool
finds_by_rules links_or_rules = true
finds_by_rules rules = true
finds_by_rules undeclared_names = true
finds_by_rules _ = false

abbrev pub finds_in_items : Finder → Bool
finds_in_items links_or_rules = true
finds_in_items rules = true
finds_in_items undeclared_names = true
finds_in_items options = true
finds_in_items _ = false

abbrev pub finds_by_links : Finder → Bool
finds_by_links links = true
finds_by_links links_or_rules = true
finds_by_links _ = false

-- The codes of the rules on what is at one occurrence, but for E07.
abbrev pub is_occurrence_code : Code → Bool
is_occurrence_code c = finds_at_occurrences (finder_of c)

-- The codes of what the rules find at the occurrences of an item.
abbrev pub is_rule_code : Code → Bool
is_rule_code c = finds_by_rules (finder_of c)

-- The codes of what is found in an item.
abbrev pub is_item_code : Code → Bool
is_item_code c = finds_in_items (finder_of c)

-- The codes of what the links find.
abbrev pub is_link_code : Code → Bool
is_link_code c = finds_by_links (finder_of c)

-- All codes.
abbrev pub all_codes : List Code
all_codes =
    E01 ∷ E02 ∷ E03 ∷ E04 ∷ E05 ∷ E06 ∷ E07 ∷ E08 ∷ E09 ∷ E10 ∷ E11
    ∷ E12 ∷ E13 ∷ E14 ∷ E15 ∷ E16 ∷ E17 ∷ E18 ∷ E19 ∷ E20 ∷ E21 ∷ E22
    ∷ W01 ∷ W02 ∷ W03 ∷ W04 ∷ W05 ∷ []
