use Rattle.wire_views.proofs.tests.cells_written_in_place.Goals as goal

pub finish-requires-clause-draft : goal.finish-requires-clause-draft
finish-requires-clause-draft g c = (_, _, c.in_ok-push-3.ensures.ok _ _ (c.in_ok-push-2.ensures.ok _ _ (c.in_ok-push.ensures.ok _ _ c.in_ok-draft.ensures.ok)))
