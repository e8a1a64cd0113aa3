mod NextRows
