use Rattle.std.specs.Fmt.{decimal}
use Rattle.std.proofs.Common.{◌∙◌}
use Rattle.audit_chain.proofs.Fields.{line_words, number_within, kind_within, client_within, detail_within}
use Rattle.audit_chain.proofs.line.words_of.Goals as goal

pub returns-in_err-rest : goal.returns-in_err-rest
returns-in_err-rest c number note mac lt formed e =
    absurd (c.in_err-rest.ensures (decimal number) _ (number_within number lt) (e ∙ line_words number note mac))

pub returns-in_err-kind : goal.returns-in_err-kind
returns-in_err-kind c number note mac lt formed e =
    let r0 = c.in_ok-rest.ensures (decimal number) _ (number_within number lt) (e ∙ line_words number note mac) in
    absurd (c.in_err-kind.ensures _ _ (kind_within note) r0.1)

pub returns-in_err-client : goal.returns-in_err-client
returns-in_err-client c number note mac lt formed e =
    let r0 = c.in_ok-rest.ensures (decimal number) _ (number_within number lt) (e ∙ line_words number note mac) in
    let r1 = c.in_ok-kind.ensures _ _ (kind_within note) r0.1 in
    absurd (c.in_err-client.ensures _ _ (client_within note formed) r1.1)

pub returns-in_err-detail : goal.returns-in_err-detail
returns-in_err-detail c number note mac lt formed e =
    let r0 = c.in_ok-rest.ensures (decimal number) _ (number_within number lt) (e ∙ line_words number note mac) in
    let r1 = c.in_ok-kind.ensures _ _ (kind_within note) r0.1 in
    let r2 = c.in_ok-client.ensures _ _ (client_within note formed) r1.1 in
    absurd (c.in_err-detail.ensures _ _ (detail_within note formed) r2.1)

pub returns : goal.returns
returns c number note mac lt formed e =
    let r0 = c.in_ok-rest.ensures (decimal number) _ (number_within number lt) (e ∙ line_words number note mac) in
    let r1 = c.in_ok-kind.ensures _ _ (kind_within note) r0.1 in
    let r2 = c.in_ok-client.ensures _ _ (client_within note formed) r1.1 in
    let r3 = c.in_ok-detail.ensures _ _ (detail_within note formed) r2.1 in
    record { kind = r1.0; client = r2.0; detail = r3.0 }
