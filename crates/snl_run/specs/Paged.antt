-- A page and its writer, as one sink.
use Rattle.std.specs.Prelude.{◌≡◌, ℕ, List, ◌++◌, Bool, true, Option, Result}
use Rattle.std.specs.Borrow.{GName}
use Rattle.snl_run.specs.declared.paged.Paged.{Paged}
use Rattle.snl_script.specs.Watched.{failed_of, inner_of}
use Rattle.snl_script.specs.Said.{AppendsPart, Says, Written}
use Rattle.snl_run.specs.Answers.{list_text}

-- What is known of a page and its writer: which writer it is, what it holds, whether it failed, and
-- what is on the page.
pub record Desk : Type 0 where
  pub writer : GName
  pub contents : Option (List ℕ)
  pub failed : Bool
  pub page : List ℕ

abbrev pub desk_of : {W : Type 0} → (contents : W → Option (List ℕ)) → Paged W → Desk
desk_of contents paged = record { writer = paged.out.ghost_name; contents = contents (inner_of paged.out.now); failed = failed_of paged.out.now; page = paged.page }

-- The bytes were said.
pub record Took (old new : Desk) (bytes : List ℕ) : Type 0 where
  pub writer : new.writer ≡ old.writer
  pub says : Says old.contents new.contents new.page (old.page ++ bytes)
  pub failed : new.failed ≡ old.failed

-- The writer failed, and holds a front of them.
pub record Broke (old new : Desk) (bytes : List ℕ) : Type 0 where
  pub writer : new.writer ≡ old.writer
  pub part : AppendsPart old.contents new.contents (old.page ++ bytes)
  pub failed : new.failed ≡ true

-- The listing of a text was written, or that memory is wanting for it.
pub record Listed {T E : Type 0} (result : Result T E) (text : List ℕ) (old new : Option (List ℕ)) : Type 0 where
  pub starved : Bool
  pub written : Written result old new (list_text text starved)
