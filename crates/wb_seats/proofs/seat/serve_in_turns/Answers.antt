use Rattle.wb_seats.proofs.seat.serve_in_turns.Goals as goal

pub serve_turns-requires-clause-answers : goal.serve_turns-requires-clause-answers
serve_turns-requires-clause-answers g c = λ m n h k asked line given post is. post.0 line is
