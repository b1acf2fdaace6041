-- What a message says goes by a few of its members.
use Rattle.std.proofs.Common.{◌≡◌, ◌≢◌, ℕ, List, Option, Some, None, cond, ◌||◌, is_some, codes, option_and_then, refl, sym, ◌∙◌}
use Rattle.serde_json.proofs.Views.{get_member-put_other}
use Rattle.serde_json.specs.Data.{Data, Members, object, put}
use Rattle.serde_json.specs.Find.{as_str, get_member}
use Rattle.snl_hear.specs.Heard.{Heard, Response, NoMessage, by_method, heard_in, with_method}

-- by the values of the members that count
abbrev by_members : (method : Option (List ℕ)) (id params answer failure : Option Data) → Heard
by_members None id params answer failure =
    cond (is_some answer || is_some failure) Response NoMessage
by_members (Some method) id params answer failure = with_method id method params

heard_by_members : (method : Option (List ℕ)) (ms : Members) →
    by_method method (object ms) ≡
    by_members method (get_member (codes "id") ms) (get_member (codes "params") ms)
    (get_member (codes "result") ms) (get_member (codes "error") ms)
heard_by_members None ms = refl
heard_by_members (Some method) ms = refl

same_members : (m n i j p q a b f g : Option Data) → m ≡ n → i ≡ j → p ≡ q → a ≡ b → f ≡ g →
    by_members (option_and_then as_str m) i p a f ≡ by_members (option_and_then as_str n) j q b g
same_members m n i j p q a b f g hm hi hp ha hf = rw (hm, hi, hp, ha, hf) refl

pub other_member : (key : List ℕ) (d : Data) (ms : Members) →
    key ≢ codes "method" → key ≢ codes "id" →
    key ≢ codes "params" → key ≢ codes "result" → key ≢ codes "error" →
    heard_in (Some (object (put key d ms))) ≡ heard_in (Some (object ms))
other_member key d ms method id params answer failure =
    heard_by_members _ (put key d ms)
    ∙ same_members _ _ _ _ _ _ _ _ _ _
    (get_member-put_other (codes "method") key d ms (λ e. method (sym e)))
    (get_member-put_other (codes "id") key d ms (λ e. id (sym e)))
    (get_member-put_other (codes "params") key d ms (λ e. params (sym e)))
    (get_member-put_other (codes "result") key d ms (λ e. answer (sym e)))
    (get_member-put_other (codes "error") key d ms (λ e. failure (sym e)))
    ∙ sym (heard_by_members _ ms)
