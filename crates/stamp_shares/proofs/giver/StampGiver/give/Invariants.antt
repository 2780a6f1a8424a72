use Rattle.stamp_shares.proofs.giver.StampGiver.give.Given as goal

abbrev pub ghosts-give_this : goal.ghosts-give_this
ghosts-give_this g a = record { stamp = a.stamp.now }
