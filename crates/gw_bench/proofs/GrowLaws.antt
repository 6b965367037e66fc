-- A desk that takes in the edits of a row keeps to the version of its front.
use Rattle.std.proofs.Common.{◌≡◌, ◌≤◌, ◌+◌, ℕ, length, arith, List, [], ◌∷◌, ◌++◌, Result, Ok, Err, IfOk, OnErr, refl, sym, ap, ap₂, subst, ◌∙◌, append-nil, append_assoc}
use Rattle.gw_meaning.specs.Listing.{Listing}
use Rattle.gw_meaning.specs.declared.edit.Edit.{Edit}
use Rattle.gw_edit.specs.declared.fault.EditFault.{EditFault}
use Rattle.gw_edit.specs.Applied.{applied}
use Rattle.gw_edit.specs.Leading.{version_of, accepted, or_same, kept_if}
use Rattle.std.specs.declared.alloc.AllocError.{AllocError}
use Rattle.gw_desk.specs.declared.post.Post.{Post}
use Rattle.gw_desk.specs.declared.post.Post.TheVariants as posts
use Rattle.gw_desk.specs.Book.{Book}
use Rattle.gw_desk.specs.Legs.{Leg}
use Rattle.gw_desk.specs.Posting.{Posts}
use Rattle.gw_bench.proofs.Fronts.{version_of-one_more}
use Rattle.gw_bench.specs.Growing.{Kept, IsHeld, Settles, TakesIn, Grows, IsGrown}

-- those of a front with one more edit that are accepted
kept_once : (e : Edit) (rest more : List Edit) (r : Result Listing EditFault) → kept_if e (rest ++ more) r ≡ kept_if e rest r ++ more
kept_once e rest more (Ok u) = refl
kept_once e rest more (Err fault) = refl

pub accepted_more : (t : Listing) (es : List Edit) (e : Edit) →
    accepted t (es ++ e ∷ []) ≡ accepted t es ++ kept_if e [] (applied (version_of t es) e)
accepted_more t [] e = refl
accepted_more t (f ∷ es) e =
    let rest = accepted_more (or_same t (applied t f)) es e in
    ap (λ xs. kept_if f xs (applied t f)) rest
    ∙ kept_once f (accepted (or_same t (applied t f)) es) (kept_if e [] (applied (version_of (or_same t (applied t f)) es) e)) (applied t f)

-- one edit of the row keeps a desk so
pub held_on : (opening : Listing) (front : List Edit) (b c : Book) (e : Edit) → IsHeld opening (record { front = front; book = b }) →
    Settles b e c → IsHeld opening (record { front = front ++ e ∷ []; book = c })
held_on opening front b c e held (Settles.accepts n d does) =
    let made : applied (version_of opening front) e ≡ Ok d.version = subst (λ t. applied t e ≡ Ok d.version) held.version does.version in
    let more : kept_if e [] (applied (version_of opening front) e) ≡ e ∷ [] = ap (kept_if e []) made in
    record {
      opening = does.opening ∙ held.opening;
      version = sym (version_of-one_more opening front e ∙ ap (or_same (version_of opening front)) made);
      edits = does.edits ∙ (ap₂ (λ xs ys. xs ++ ys) held.edits (sym more) ∙ sym (accepted_more opening front e));
    }
held_on opening front b c e held (Settles.refuses fault refused) =
    let is : applied (version_of opening front) e ≡ Err fault = subst (λ t. applied t e ≡ Err fault) held.version refused in
    let none : kept_if e [] (applied (version_of opening front) e) ≡ [] = ap (kept_if e []) is in
    record {
      opening = held.opening;
      version = held.version ∙ sym (version_of-one_more opening front e ∙ ap (or_same (version_of opening front)) is);
      edits =
          held.edits ∙ (sym (append-nil (accepted opening front)) ∙ (ap (λ xs. accepted opening front ++ xs) (sym none) ∙ sym (accepted_more opening front e)));
    }

-- and so does what changes none of these
pub held_still : (opening : Listing) (front : List Edit) (b c : Book) → IsHeld opening (record { front = front; book = b }) →
    c.opening ≡ b.opening → c.version ≡ b.version → c.edits ≡ b.edits → IsHeld opening (record { front = front; book = c })
held_still opening front b c held same version edits =
    record { opening = same ∙ held.opening; version = version ∙ held.version; edits = edits ∙ held.edits }

abbrev kept : List Edit → Book → Kept
kept front b = record { front = front; book = b }

-- and so does what becomes of a leg, if the growth was not refused
pub held_posts : (opening : Listing) (front : List Edit) (b c : Book) (l : Leg) (r : Result Post AllocError) →
    IsHeld opening (record { front = front; book = b }) → IfOk r (λ post. Posts b l post c) → OnErr r (c ≡ b) →
    IsHeld opening (record { front = front; book = c })
held_posts opening front b c l (Ok posts.Posted) held is none = held_still opening front b c held is.opening is.version is.edits
held_posts opening front b c l (Ok posts.Dropped) held is none =
    subst (λ (d : Book). IsHeld opening (record { front = front; book = d })) (sym is.0) held
held_posts opening front b c l (Err fault) held is none =
    subst (λ (d : Book). IsHeld opening (record { front = front; book = d })) (sym none) held

-- where it was refused, nothing has changed
pub held_same : (front : List Edit) (b c : Book) (k : Kept) → c ≡ b → kept front b ≡ k → kept front c ≡ k
held_same front b c k same is = subst (λ (d : Book). kept front d ≡ k) (sym same) is

-- at most as many edits are accepted as there are
one_at_most : (e : Edit) (rest : List Edit) (r : Result Listing EditFault) → length (kept_if e rest r) ≤ length rest + 1
one_at_most e rest (Ok u) = omega arith
one_at_most e rest (Err fault) = omega arith

pub accepted_fits : (t : Listing) (es : List Edit) → length (accepted t es) ≤ length es
accepted_fits t [] = omega arith
accepted_fits t (e ∷ es) =
    let rest = accepted_fits (or_same t (applied t e)) es in
    omega (arith, one_at_most e (accepted (or_same t (applied t e)) es) (applied t e), rest)

-- the front grows by just the edits that are taken in
pub front_grows : (a b : Kept) (es : List Edit) → Grows a es b → b.front ≡ a.front ++ es
front_grows a b es (Grows.none x) = sym (append-nil a.front)
front_grows a b es (Grows.one x y z e rest takes grows) =
    front_grows y b rest grows ∙ (ap (λ f. f ++ rest) takes.front ∙ append_assoc a.front (e ∷ []) rest)

-- one edit more, and some after others
pub grown_none : (a : Kept) → IsGrown a a
grown_none a = record { edits = []; grows = Grows.none a }

grows_more : (a b c : Kept) (es : List Edit) (e : Edit) → Grows a es b → TakesIn b e c → Grows a (es ++ e ∷ []) c
grows_more a b c es e (Grows.none x) takes = Grows.one a c c e [] takes (Grows.none c)
grows_more a b c es e (Grows.one x y z d rest first grows) takes = Grows.one a y c d (rest ++ e ∷ []) first (grows_more y b c rest e grows takes)

pub grown_one : (a b c : Kept) (e : Edit) → IsGrown a b → TakesIn b e c → IsGrown a c
grown_one a b c e grown takes = record { edits = grown.edits ++ e ∷ []; grows = grows_more a b c grown.edits e grown.grows takes }

grows_on : (a b c : Kept) (es more : List Edit) → Grows a es b → Grows b more c → Grows a (es ++ more) c
grows_on a b c es more (Grows.none x) h = h
grows_on a b c es more (Grows.one x y z e rest first grows) h = Grows.one a y c e (rest ++ more) first (grows_on y b c rest more grows h)

pub grown_on : (a b c : Kept) → IsGrown a b → IsGrown b c → IsGrown a c
grown_on a b c first next = record { edits = first.edits ++ next.edits; grows = grows_on a b c first.edits next.edits first.grows next.grows }
