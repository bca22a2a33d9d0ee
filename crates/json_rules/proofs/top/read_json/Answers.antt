use Rattle.std.proofs.Common.{ℕ, ◌≡◌, sym, ◌∙◌, Bool, true, false, List, Some, None, refl, true≢false}
use Rattle.std.specs.Str.{is_utf8}
use Rattle.std.proofs.lemmas.Str.{IsUtf8-from_is_utf8, is_utf8-from_IsUtf8}
use Rattle.serde_json.specs.View.{view}
use Rattle.serde_json.specs.Read.{read}
use Rattle.serde_json.specs.Data.{Data}
use Rattle.json_rules.specs.Tops.{json_of}
use Rattle.json_rules.proofs.top.read_json.Goals as goal

refused : (text : List ℕ) (b : Bool) → is_utf8 text ≡ b → (b ≡ true → read text ≡ None) → None ≡ json_of text
refused text true is none = rw (is, none refl) refl
refused text false is none = rw is refl

read_whole : (text : List ℕ) (d : Data) → is_utf8 text ≡ true → read text ≡ Some d → Some d ≡ json_of text
read_whole text d is whole = rw (is, whole) refl

pub returns-else-is_memory : goal.returns-else-is_memory
returns-else-is_memory c =
    refused c.args.text.now _ refl (λ is. c.in-Err.ensures.err (λ m. true≢false (sym (c.is_memory.ensures.1 m) ∙ c.if-is_memory.false)) (IsUtf8-from_is_utf8 _ is))

pub returns-in-Ok : goal.returns-in-Ok
returns-in-Ok c =
    let whole = c.in-Ok.ensures.ok in
    read_whole c.args.text.now (view c.in-Ok.value) (is_utf8-from_IsUtf8 _ whole.0) whole.1
