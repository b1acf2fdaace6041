-- What follows from what was heard, or from the value of a body.
use Rattle.std.proofs.Common.{◌≡◌, ℕ, ◌≤◌, List, Option, Some, None, Bool, true, false, cond, codes, arith}
use Rattle.std.specs.Str.{is_utf8}
use Rattle.serde_json.proofs.Nesting.{depth-read}
use Rattle.serde_json.specs.Data.{Data, depth}
use Rattle.serde_json.specs.Find.{get}
use Rattle.serde_json.specs.Read.{max_depth, read}
use Rattle.snl_hear.specs.Documents.{string_at}
use Rattle.snl_hear.specs.Heard.{Request, Response, NoMessage, by_method, heard_in, is_response, request_by, with_method}
use Rattle.snl_hear.specs.Ids.{is_id}
use Rattle.snl_hear.specs.Json.{json_in}
use Rattle.snl_hear.specs.Requests.{Asked}

pub shallow : (bytes : List ℕ) (d : Data) → json_in bytes ≡ Some d → depth d ≤ max_depth
shallow bytes d =
    elim (is_utf8 bytes) as (λ b. cond b (read bytes) None ≡ Some d → depth d ≤ max_depth)
    [ true ↦ λ e. depth-read bytes d e | false ↦ λ e. absurd (grind arith) ]

no_request : (b : Bool) (id : Data) (asked : Asked) →
    cond b Response NoMessage ≡ Request id asked → ⊥
no_request true id asked e = grind arith
no_request false id asked e = grind arith

kept_if : (b : Bool) (found id : Data) (told asked : Asked) →
    request_by (cond b (Some found) None) told ≡ Request id asked → Some found ≡ Some id
kept_if true found id told asked e = grind arith
kept_if false found id told asked e = absurd (grind arith)

kept_with : (found : Option Data) (method : List ℕ) (params : Option Data)
    (id : Data) (asked : Asked) →
    with_method found method params ≡ Request id asked → found ≡ Some id
kept_with None method params id asked e = absurd (grind arith)
kept_with (Some found) method params id asked e = kept_if (is_id found) found id _ asked e

kept_by : (method : Option (List ℕ)) (d id : Data) (asked : Asked) →
    by_method method d ≡ Request id asked → get (codes "id") d ≡ Some id
kept_by None d id asked e = absurd (no_request (is_response d) id asked e)
kept_by (Some method) d id asked e = kept_with (get (codes "id") d) method _ id asked e

pub id_kept : (d id : Data) (asked : Asked) → heard_in (Some d) ≡ Request id asked →
    get (codes "id") d ≡ Some id
id_kept d id asked e = kept_by (string_at (codes "method") d) d id asked e
