-- A stream is split into requests in one way.
use Rattle.std.proofs.Common.{◌≡◌, ℕ, List, [], ◌∷◌, ◌++◌, refl, sym, ap, subst, ◌∙◌, append_assoc}
use Rattle.std.specs.List.{flat_map}
use Rattle.pg_wire.specs.declared.front.Pair.{Pair}
use Rattle.pg_wire.specs.declared.front.Front.{Front}
use Rattle.pg_wire.specs.declared.front.Front.TheVariants as fronts
use Rattle.pg_wire.specs.declared.frame.Side.TheVariants as side
use Rattle.pg_wire.specs.Fronts.{front_kind, front_body}
use Rattle.pg_wire.proofs.FrameLaws.{one_frame}
use Rattle.pg_wire.proofs.OneMessage.{one_front}
use Rattle.sql_tree.specs.declared.statement.Statement.{Statement}
use Rattle.session_model.specs.declared.encryption.Encryption.{Encryption}
use Rattle.session_model.specs.declared.encryption.Encryption.TheVariants as encryption
use Rattle.session_model.specs.declared.meaning.Meaning.{Meaning}
use Rattle.session_model.specs.declared.meaning.Meaning.TheVariants as meaning
use Rattle.session_model.specs.declared.refusal.Refusal.{Refusal}
use Rattle.session_model.specs.Meanings.{Means}
use Rattle.session_model.specs.Requests.{Request, Phase, phase_after, phase_after_all, is_opening, IsSaid, IsQuery, AreSaid, asking, message_of, request_bytes, stream_of, NoRequest, Splits, message_limit}
use Rattle.session_model.proofs.Meant.{one_meaning}
use Rattle.session_model.proofs.Requested.{said_frame, said_spells}

abbrev params_of : Front → List Pair
params_of (fronts.Startup params) = params
params_of m = []

abbrev text_of : Front → List ℕ
text_of (fronts.Query text) = text
text_of m = []

one_asking : (a b : Encryption) → asking a ≡ asking b → a ≡ b
one_asking encryption.Tls encryption.Tls e = refl
one_asking encryption.Tls encryption.Gss e = absurd cc
one_asking encryption.Gss encryption.Tls e = absurd cc
one_asking encryption.Gss encryption.Gss e = refl

asking_opens_not : (a : Encryption) (params : List Pair) → asking a ≡ fronts.Startup params → ⊥
asking_opens_not encryption.Tls params e = absurd cc
asking_opens_not encryption.Gss params e = absurd cc

same_text : (t u : List ℕ) → message_of (Request.Empties t) ≡ message_of (Request.Empties u) → t ≡ u
same_text t u e = ap text_of e

-- a text asks one thing
same_meaning : (t u : List ℕ) (a b : Meaning) → IsQuery t a → IsQuery u b → message_of (Request.Empties t) ≡ message_of (Request.Empties u) → a ≡ b
same_meaning t u a b p q e = one_meaning u a b (subst (λ (xs : List ℕ). Means xs a) (same_text t u e) p.means) q.means

same_asked : (t u : List ℕ) (a b : Statement) → t ≡ u → meaning.Serves a ≡ meaning.Serves b → Request.Asks t a ≡ Request.Asks u b
same_asked t u a b texts m = let trees : a ≡ b = cc in ap (λ (xs : List ℕ). Request.Asks xs a) texts ∙ ap (λ (tree : Statement). Request.Asks u tree) trees

same_refused : (t u : List ℕ) (a b : Refusal) → t ≡ u → meaning.Refused a ≡ meaning.Refused b → Request.Refused t a ≡ Request.Refused u b
same_refused t u a b texts m = let causes : a ≡ b = cc in ap (λ (xs : List ℕ). Request.Refused xs a) texts ∙ ap (λ (cause : Refusal). Request.Refused u cause) causes

nothing_served : (tree : Statement) → meaning.Nothing ≡ meaning.Serves tree → ⊥
nothing_served tree e = absurd cc

nothing_refused : (cause : Refusal) → meaning.Nothing ≡ meaning.Refused cause → ⊥
nothing_refused cause e = absurd cc

served_refused : (tree : Statement) (cause : Refusal) → meaning.Serves tree ≡ meaning.Refused cause → ⊥
served_refused tree cause e = absurd cc

-- in one place a message is one request
one_said : (p : Phase) (r q : Request) → IsSaid p r → IsSaid p q → message_of r ≡ message_of q → r ≡ q
one_said Phase.Opening (Request.Encrypts a) (Request.Encrypts b) ir iq e = ap (λ (how : Encryption). Request.Encrypts how) (one_asking a b e)
one_said Phase.Opening (Request.Encrypts a) (Request.Opens b) ir iq e = absurd (asking_opens_not a b e)
one_said Phase.Opening (Request.Encrypts a) (Request.Asks u b) ir iq e = absurd iq
one_said Phase.Opening (Request.Encrypts a) (Request.Empties u) ir iq e = absurd iq
one_said Phase.Opening (Request.Encrypts a) (Request.Refused u b) ir iq e = absurd iq
one_said Phase.Opening (Request.Encrypts a) Request.Leaves ir iq e = absurd iq
one_said Phase.Opening (Request.Opens a) (Request.Encrypts b) ir iq e = absurd (asking_opens_not b a (sym e))
one_said Phase.Opening (Request.Opens a) (Request.Opens b) ir iq e = ap (λ (m : Front). Request.Opens (params_of m)) e
one_said Phase.Opening (Request.Opens a) (Request.Asks u b) ir iq e = absurd iq
one_said Phase.Opening (Request.Opens a) (Request.Empties u) ir iq e = absurd iq
one_said Phase.Opening (Request.Opens a) (Request.Refused u b) ir iq e = absurd iq
one_said Phase.Opening (Request.Opens a) Request.Leaves ir iq e = absurd iq
one_said Phase.Opening (Request.Asks t a) q ir iq e = absurd ir
one_said Phase.Opening (Request.Empties t) q ir iq e = absurd ir
one_said Phase.Opening (Request.Refused t a) q ir iq e = absurd ir
one_said Phase.Opening Request.Leaves q ir iq e = absurd ir
one_said Phase.Serving (Request.Encrypts a) q ir iq e = absurd ir
one_said Phase.Serving (Request.Opens a) q ir iq e = absurd ir
one_said Phase.Serving (Request.Asks t a) (Request.Encrypts b) ir iq e = absurd iq
one_said Phase.Serving (Request.Asks t a) (Request.Opens b) ir iq e = absurd iq
one_said Phase.Serving (Request.Asks t a) (Request.Asks u b) ir iq e = same_asked t u a b (same_text t u e) (same_meaning t u (meaning.Serves a) (meaning.Serves b) ir iq e)
one_said Phase.Serving (Request.Asks t a) (Request.Empties u) ir iq e = absurd (nothing_served a (sym (same_meaning t u (meaning.Serves a) meaning.Nothing ir iq e)))
one_said Phase.Serving (Request.Asks t a) (Request.Refused u b) ir iq e = absurd (served_refused a b (same_meaning t u (meaning.Serves a) (meaning.Refused b) ir iq e))
one_said Phase.Serving (Request.Asks t a) Request.Leaves ir iq e = absurd cc
one_said Phase.Serving (Request.Empties t) (Request.Encrypts b) ir iq e = absurd iq
one_said Phase.Serving (Request.Empties t) (Request.Opens b) ir iq e = absurd iq
one_said Phase.Serving (Request.Empties t) (Request.Asks u b) ir iq e = absurd (nothing_served b (same_meaning t u meaning.Nothing (meaning.Serves b) ir iq e))
one_said Phase.Serving (Request.Empties t) (Request.Empties u) ir iq e = ap (λ (xs : List ℕ). Request.Empties xs) (same_text t u e)
one_said Phase.Serving (Request.Empties t) (Request.Refused u b) ir iq e = absurd (nothing_refused b (same_meaning t u meaning.Nothing (meaning.Refused b) ir iq e))
one_said Phase.Serving (Request.Empties t) Request.Leaves ir iq e = absurd cc
one_said Phase.Serving (Request.Refused t a) (Request.Encrypts b) ir iq e = absurd iq
one_said Phase.Serving (Request.Refused t a) (Request.Opens b) ir iq e = absurd iq
one_said Phase.Serving (Request.Refused t a) (Request.Asks u b) ir iq e = absurd (served_refused b a (sym (same_meaning t u (meaning.Refused a) (meaning.Serves b) ir iq e)))
one_said Phase.Serving (Request.Refused t a) (Request.Empties u) ir iq e = absurd (nothing_refused a (sym (same_meaning t u (meaning.Refused a) meaning.Nothing ir iq e)))
one_said Phase.Serving (Request.Refused t a) (Request.Refused u b) ir iq e = same_refused t u a b (same_text t u e) (same_meaning t u (meaning.Refused a) (meaning.Refused b) ir iq e)
one_said Phase.Serving (Request.Refused t a) Request.Leaves ir iq e = absurd cc
one_said Phase.Serving Request.Leaves (Request.Encrypts b) ir iq e = absurd iq
one_said Phase.Serving Request.Leaves (Request.Opens b) ir iq e = absurd iq
one_said Phase.Serving Request.Leaves (Request.Asks u b) ir iq e = absurd cc
one_said Phase.Serving Request.Leaves (Request.Empties u) ir iq e = absurd cc
one_said Phase.Serving Request.Leaves (Request.Refused u b) ir iq e = absurd cc
one_said Phase.Serving Request.Leaves Request.Leaves ir iq e = refl
one_said Phase.Over r q ir iq e = absurd ir

-- the two requests are equal, and what follows
one_request : (p : Phase) (r q : Request) (x y : List ℕ) → IsSaid p r → IsSaid p q → request_bytes r ++ x ≡ request_bytes q ++ y → (r ≡ q) × (x ≡ y)
one_request p r q x y ir iq e =
    let one = one_frame side.Client message_limit (is_opening p) (front_kind (message_of r)) (front_kind (message_of q)) (front_body (message_of r)) (front_body (message_of q)) x y (said_frame p r ir) (said_frame p q iq) e in
    (one_said p r q ir iq (one_front (message_of r) (message_of q) (said_spells p r ir) (said_spells p q iq) one.0 one.1), one.2)

split_first : (r : Request) (rs : List Request) (rest : List ℕ) → stream_of (r ∷ rs) rest ≡ request_bytes r ++ stream_of rs rest
split_first r rs rest = append_assoc (request_bytes r) (flat_map request_bytes rs) rest

one_split : (p : Phase) (rs qs : List Request) (x y : List ℕ) → stream_of rs x ≡ stream_of qs y → AreSaid p rs → AreSaid p qs → NoRequest (phase_after_all p rs) x → NoRequest (phase_after_all p qs) y → (rs ≡ qs) × (x ≡ y)
one_split p [] [] x y e ir iq nx ny = (refl, e)
one_split p [] (q ∷ qs) x y e ir iq nx ny = absurd (nx q (stream_of qs y) iq.0 (e ∙ split_first q qs y))
one_split p (r ∷ rs) [] x y e ir iq nx ny = absurd (ny r (stream_of rs x) ir.0 (sym e ∙ split_first r rs x))
one_split p (r ∷ rs) (q ∷ qs) x y e ir iq nx ny =
    let first = one_request p r q (stream_of rs x) (stream_of qs y) ir.0 iq.0 (sym (split_first r rs x) ∙ e ∙ split_first q qs y) in
    let said = subst (λ (a : Request). AreSaid (phase_after p a) qs) (sym first.0) iq.1 in
    let none = subst (λ (a : Request). NoRequest (phase_after_all (phase_after p a) qs) y) (sym first.0) ny in
    let behind = one_split (phase_after p r) rs qs x y first.1 ir.1 said nx none in
    (ap (λ (a : Request). a ∷ rs) first.0 ∙ ap (λ (others : List Request). q ∷ others) behind.0, behind.1)

pub one_stream : (client x y : List ℕ) (rs qs : List Request) → Splits client rs x → Splits client qs y → (rs ≡ qs) × (x ≡ y)
one_stream client x y rs qs a b = one_split Phase.Opening rs qs x y (sym a.whole ∙ b.whole) a.each b.each a.last b.last
