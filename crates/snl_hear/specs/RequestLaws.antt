-- What a request asks of a document.
use Rattle.std.proofs.Common.{◌≡◌, ℕ, List, Option, None, Some}
use Rattle.std.specs.Prelude.{option_and_then, option_map}
use Rattle.serde_json.specs.Data.{Data}
use Rattle.snl_hear.specs.declared.requests.DocumentMethod.{DocumentMethod}
use Rattle.snl_hear.specs.declared.requests.RequestMethod.{RequestMethod}
use Rattle.snl_hear.specs.declared.requests.RequestMethod.TheVariants as method
use Rattle.snl_hear.specs.Documents.{uri_in}
use Rattle.snl_hear.specs.Requests.{OfDocument, Query, asked_by, asked_in, asked_of_document, fitting, method_named, query_by}

named_by : (asked : DocumentMethod) (params : Option Data) (uri : List ℕ) (query : Query) →
    fitting (asked_of_document asked params) ≡ OfDocument uri query → uri_in params ≡ Some uri
named_by asked params uri query = by (uri_in params) (query_by asked params)
  where
    by : (u : Option (List ℕ)) (q : Option Query) →
        fitting (option_and_then (λ v. option_map (OfDocument v) q) u) ≡ OfDocument uri query →
        u ≡ Some uri
    by None q is = cc
    by (Some v) None is = cc
    by (Some v) (Some q) is = cc

-- It is asked of the document that its parameters name, whatever its method is.
pub document_named : (name : List ℕ) (params : Option Data) (uri : List ℕ) (query : Query) →
    asked_in name params ≡ OfDocument uri query → uri_in params ≡ Some uri
document_named name params uri query = by (method_named name)
  where
    by : (m : RequestMethod) → asked_by m params ≡ OfDocument uri query → uri_in params ≡ Some uri
    by method.Initialize is = cc
    by method.Shutdown is = cc
    by (method.OfDocument asked) is = named_by asked params uri query is
    by method.Other is = cc
