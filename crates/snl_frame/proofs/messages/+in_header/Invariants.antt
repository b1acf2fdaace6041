use Rattle.snl_frame.proofs.messages.+in_header.Given as goal

-- fewer lines may come
abbrev pub decreases-in_header : goal.decreases-in_header
decreases-in_header l = l.lines
