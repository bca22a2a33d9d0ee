use Rattle.std.proofs.Common.{take, []}
use Rattle.token_store.specs.Loading.{Loads}
use Rattle.token_store.proofs.store.Tokens.load.Given as goal

abbrev pub invariant-loop-index : goal.invariant-loop-index
invariant-loop-index g l = Loads (g.A.Aead.sealed l.aead) (record { token_key = l.fn.token_key; store_key = l.fn.store_key; limit = l.limit; entries = [] }) (take l.index l.pieces) l.tokens
