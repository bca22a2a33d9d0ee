-- The session that is worked to the byte, computed.
use Rattle.std.proofs.Common.{◌≡◌, ◌≢◌, ℕ, negsuc, zero, suc, inl, inr, List, [], ◌∷◌, ◌++◌, codes, Some, refl, sym, subst, lit<, lit≤}
use Rattle.std.specs.Fmt.{decimal}
use Rattle.std.proofs.lemmas.Fmt.{decimal_digit}
use Rattle.rand_chacha.specs.ChaCha.{ChaCha}
use Rattle.pg_wire.specs.declared.back.Field.{Field}
use Rattle.pg_wire.specs.declared.back.Back.TheVariants as backs
use Rattle.machine_replies.specs.Replies.{startup_messages, ready}
use Rattle.lab_backend.proofs.Texts.{IsText-from_test}
use Rattle.session_model.specs.Requests.{Request, Phase, IsSaid, IsQuery, AreSaid, NoRequest, Splits}
use Rattle.session_model.specs.declared.meaning.Meaning.TheVariants as meaning
use Rattle.session_model.specs.Reply.{reply_bytes}
use Rattle.lab_core.specs.Headline.{IsOver}
use Rattle.lab_session.specs.Runs.{started, answers}
use Rattle.lab_core.proofs.Texts.{insert_means, select_means}
use Rattle.lab_core.specs.Example.{user_app, insert_text, insert_tree, select_text, select_tree, example_requests, example_input, example_reply}

-- the digits of 1, which no definition here computes
one_digit : decimal 1 ≡ codes "1"
one_digit = decimal_digit 1 (lit< tt)

named : user_app.name ≢ []
named e = absurd cc

opens_said : IsSaid Phase.Opening (Request.Opens (user_app ∷ []))
opens_said = (((named, (IsText-from_test (codes "user") refl, IsText-from_test (codes "app") refl)), tt), (refl, lit≤ tt, lit≤ tt))

insert_asked : IsQuery insert_text (meaning.Serves insert_tree)
insert_asked = record { no_zero = IsText-from_test insert_text refl; framed = (refl, lit≤ tt, lit≤ tt); means = insert_means }

select_asked : IsQuery select_text (meaning.Serves select_tree)
select_asked = record { no_zero = IsText-from_test select_text refl; framed = (refl, lit≤ tt, lit≤ tt); means = select_means }

example_said : AreSaid Phase.Opening example_requests
example_said = (opens_said, (insert_asked, (select_asked, (tt, tt))))

none_behind : NoRequest Phase.Over []
none_behind r rest h e = h

pub example_splits : Splits example_input example_requests []
example_splits = record { whole = refl; each = example_said; last = none_behind }

pub example_over : IsOver example_requests []
example_over = inl refl

-- the column of the result
abbrev body_field : Field
body_field = record { name = codes "body"; table = 16384; attribute = 2; kind = 25; size = negsuc 0; modifier = negsuc 0; format = 0 }

-- the replies behind the first, by the digits of their counts
abbrev tail_messages : List ℕ → List ℕ
tail_messages one = reply_bytes (backs.Complete (codes "INSERT 0 " ++ one) ∷ ready ∷ []) ++ (reply_bytes (backs.Row (body_field ∷ []) ∷ backs.Cells (Some (codes "it's") ∷ []) ∷ backs.Complete (codes "SELECT " ++ one) ∷ ready ∷ []) ++ [])

-- whatever is drawn
pub example_answers : (id : ℕ) (key search : List ℕ) (g : ChaCha) → answers (record { owner = codes "app"; id = id; key = key; search = search }) (started g) example_requests ≡ example_reply
example_answers id key search g = subst (λ one. reply_bytes (startup_messages 1) ++ tail_messages one ≡ example_reply) (sym one_digit) refl
