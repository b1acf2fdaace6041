-- The request at the front of some bytes, and requests one after another.
use Rattle.std.proofs.Common.{◌≡◌, ℕ, zero, suc, ◌+◌, ◌<◌, ◌≤◌, List, [], ◌∷◌, ◌++◌, length, take, drop, Bool, true, false, ◌==◌, cond, nat_le, Option, Some, None, refl, sym, ap, ◌∙◌, subst, append_assoc, arith, get_or, length-take, length-drop, position}
use Rattle.std.proofs.Math.Seq.{drop-cons, take-add}
use Rattle.std.proofs.lemmas.Bool.Decides.{nat_tests}
use Rattle.std.proofs.lemmas.List.{append-nil, drop-drop, get_or-take}
use Rattle.std.proofs.lemmas.List.Concat.{flat_map-append}
use Rattle.std.specs.Option.{option_map}
use Rattle.snl_facts.specs.Positions.{position_cons}
use Rattle.snl_report.specs.declared.form.Style.{Style}
use Rattle.snl_reporter.specs.declared.faults.Status.{Status}
use Rattle.snl_reporter.specs.declared.front.Front.TheVariants.{Short, Malformed, Whole}
use Rattle.snl_reporter.specs.declared.heading.Heading.{Heading}
use Rattle.snl_reporter.specs.Ends.{worse}
use Rattle.snl_reporter.specs.Fronts.{front_after, front_at, front_of}
use Rattle.snl_reporter.specs.Headings.{heading_of}
use Rattle.snl_reporter.specs.Requests.{Begins, IsSpelled, Request, replies, reply, request_in, status_of, worst_after}

-- ---- the line at the front

feed_step : (x : ℕ) (xs : List ℕ) (end : ℕ) (b : Bool) → (x == 10) ≡ b → (o : Option ℕ) → ((k : ℕ) → o ≡ Some k → (k < length xs) × (get_or xs k 0 ≡ 10)) → cond b (Some 0) (option_map suc o) ≡ Some end → (end < length (x ∷ xs)) × (get_or (x ∷ xs) end 0 ≡ 10)
feed_step x xs end true e o more h =
    let here : zero ≡ end = cc in
    let ten : x ≡ 10 = grind (arith, nat_tests) in
    (omega arith, subst (λ (n : ℕ). get_or (x ∷ xs) n 0 ≡ 10) here ten)
feed_step x xs end false e None more h = cc
feed_step x xs end false e (Some k) more h =
    let next : suc k ≡ end = cc in
    let m = more k refl in
    (omega (arith, m.0), subst (λ (n : ℕ). get_or (x ∷ xs) n 0 ≡ 10) next m.1)

-- the first LF is one
feed_there : (xs : List ℕ) (end : ℕ) → position (λ b. b == 10) xs ≡ Some end → (end < length xs) × (get_or xs end 0 ≡ 10)
feed_there [] end h = cc
feed_there (x ∷ xs) end h = feed_step x xs end (x == 10) refl (position (λ b. b == 10) xs) (feed_there xs) (sym (position_cons (λ b. b == 10) x xs) ∙ h)

-- what is whole at the front has a heading
record HasHeading (bytes : List ℕ) (line name text : ℕ) : Type 0 where
  end : ℕ
  after : line ≡ end + 1
  few : end ≤ 80
  room : end < length bytes
  feed : get_or bytes end 0 ≡ 10
  inside : line + name + text ≤ length bytes
  heading : heading_of (take end bytes) ≡ Some (record { name = name; text = text })

whole_heading : (bytes : List ℕ) (line name text : ℕ) → front_of bytes ≡ Whole line name text → HasHeading bytes line name text
whole_heading bytes line name text h = by_place (position (λ b. b == 10) (take 81 bytes)) refl h
  where
    by_place : (o : Option ℕ) → position (λ b. b == 10) (take 81 bytes) ≡ o → front_at o bytes ≡ Whole line name text → HasHeading bytes line name text
    by_place None p k = by_test (nat_le (length bytes) 80) k
      where
        by_test : (b : Bool) → cond b Short Malformed ≡ Whole line name text → HasHeading bytes line name text
        by_test true e = cc
        by_test false e = cc
    by_place (Some end) p k = by_heading (heading_of (take end bytes)) refl k
      where
        by_heading : (o : Option Heading) → heading_of (take end bytes) ≡ o → front_after o (end + 1) (length bytes) ≡ Whole line name text → HasHeading bytes line name text
        by_heading None e w = cc
        by_heading (Some heading) e w = by_room (nat_le (end + 1 + heading.name + heading.text) (length bytes)) refl w
          where
            by_room : (b : Bool) → nat_le (end + 1 + heading.name + heading.text) (length bytes) ≡ b → cond b (Whole (end + 1) heading.name heading.text) Short ≡ Whole line name text → HasHeading bytes line name text
            by_room false t v = cc
            by_room true t v =
                let a : end + 1 ≡ line = cc in
                let n : heading.name ≡ name = cc in
                let m : heading.text ≡ text = cc in
                let fits : end + 1 + heading.name + heading.text ≤ length bytes = grind (arith, nat_tests) in
                let place = feed_there (take 81 bytes) end p in
                let size : length (take 81 bytes) ≤ 81 = omega (arith, length-take 81 bytes) in
                let all : length (take 81 bytes) ≤ length bytes = omega (arith, length-take 81 bytes) in
                record {
                  end = end;
                  after = sym a;
                  few = omega (arith, place.0, size);
                  room = omega (arith, place.0, all);
                  feed = sym (get_or-take 81 bytes end 0 (omega (arith, place.0, size))) ∙ place.1;
                  inside = omega (arith, a, n, m, fits);
                  heading = e ∙ ap Some (rw (← n, ← m) refl);
                }

-- the front is the request that is spelled there
pub spelled_front : (bytes : List ℕ) (line name text : ℕ) → front_of bytes ≡ Whole line name text → IsSpelled (request_in bytes line name text) (take (line + name + text) bytes)
spelled_front bytes line name text w =
    let h = whole_heading bytes line name text w in
    let inside : line + name + text ≤ length bytes = h.inside in
    let after : line ≡ h.end + 1 = h.after in
    let count : line + name + text ≡ h.end + suc (name + text) = omega arith in
    let line_is : suc h.end ≡ line = omega arith in
    let next : drop h.end bytes ≡ 10 ∷ drop line bytes = drop-cons bytes h.end 0 h.room ∙ ap (λ (x : ℕ). x ∷ drop (suc h.end) bytes) h.feed ∙ ap (λ (n : ℕ). 10 ∷ drop n bytes) line_is in
    let back : drop name (drop line bytes) ≡ drop (line + name) bytes = drop-drop name line bytes in
    let parts : take (name + text) (drop line bytes) ≡ take name (drop line bytes) ++ take text (drop (line + name) bytes) = take-add name text (drop line bytes) ∙ ap (λ (l : List ℕ). take name (drop line bytes) ++ take text l) back in
    let own : take (line + name + text) bytes ≡ take h.end bytes ++ 10 ∷ (take name (drop line bytes) ++ take text (drop (line + name) bytes)) =
    ap (λ (n : ℕ). take n bytes) count
    ∙ take-add h.end (suc (name + text)) bytes
    ∙ ap (λ (l : List ℕ). take h.end bytes ++ take (suc (name + text)) l) next
    ∙ ap (λ (l : List ℕ). take h.end bytes ++ 10 ∷ l) parts in
    let name_size : length (take name (drop line bytes)) ≡ name = omega (arith, length-take name (drop line bytes), length-drop line bytes) in
    let text_size : length (take text (drop (line + name) bytes)) ≡ text = omega (arith, length-take text (drop (line + name) bytes), length-drop (line + name) bytes) in
    record {
      line = take h.end bytes;
      heading = h.heading ∙ ap Some (rw (name_size, text_size) refl);
      few = omega (arith, length-take h.end bytes, h.few);
      spelled = own;
    }

-- ---- requests one after another

pub Begins-grows : (bytes more : List ℕ) (rs : List Request) (rest : List ℕ) → Begins bytes rs rest → Begins (bytes ++ more) rs (rest ++ more)
Begins-grows bytes more [] rest h = ap (λ (l : List ℕ). l ++ more) h
Begins-grows bytes more (r ∷ rs) rest h = (h.0, h.1 ++ more, ap (λ (l : List ℕ). l ++ more) h.2 ∙ append_assoc h.0 h.1 more, h.3, Begins-grows h.1 more rs rest h.4)

pub Begins-on : (bytes own left rest : List ℕ) (rs : List Request) (r : Request) → Begins bytes rs rest → rest ≡ own ++ left → IsSpelled r own → Begins bytes (rs ++ r ∷ []) left
Begins-on bytes own left rest [] r h e s = (own, left, sym h ∙ e, s, refl)
Begins-on bytes own left rest (x ∷ rs) r h e s = (h.0, h.1, h.2, h.3, Begins-on h.1 own left rest rs r h.4 e s)

pub replies-on : (style : Style) (rs : List Request) (r : Request) → replies style (rs ++ r ∷ []) ≡ replies style rs ++ reply style r
replies-on style rs r = flat_map-append (reply style) rs (r ∷ []) ∙ ap (λ (l : List ℕ). replies style rs ++ l) (append-nil (reply style r))

pub worst-on : (status : Status) (rs : List Request) (r : Request) → worst_after status (rs ++ r ∷ []) ≡ worse (worst_after status rs) (status_of r.text)
worst-on status [] r = refl
worst-on status (x ∷ rs) r = worst-on (worse status (status_of x.text)) rs r
