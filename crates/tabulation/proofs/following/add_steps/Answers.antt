use Rattle.tabulation.proofs.following.add_steps.Goals as goal

pub add_next-requires : goal.add_next-requires
add_next-requires c = rw (c.as_slice.ensures.value, c.setting.ensures) c.in_ok-facts.ensures.follow

pub add_next-requires-2 : goal.add_next-requires-2
add_next-requires-2 c = rw (c.as_slice-2.ensures.value, c.setting-2.ensures) c.in_ok-facts.ensures.follow
